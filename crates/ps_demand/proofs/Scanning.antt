-- The triples of a post and a command, one after another.
use Rattle.std.proofs.Common.{◌≡◌, ◌≢◌, ◌<◌, ◌≤◌, ◌+◌, ◌-◌, ℕ, zero, suc, Bool, true, false, ◌&&◌, ◌==◌, List, [], ◌∷◌, ◌++◌, length, drop, get_or, refl, sym, ap, ◌∙◌, subst, Some, None, arith, eq-eqb, if◌then◌else◌}
use Rattle.std.specs.Prelude.{slice_get}
use Rattle.std.specs.List.{filter}
use Rattle.std.proofs.lemmas.Bool.{eqb-true, and_parts}
use Rattle.std.proofs.lemmas.List.{drop_more, drop_all, append_assoc, append-nil}
use Rattle.std.proofs.lemmas.Option.{slice_get_within, slice_get-get_or, get_or_from_slice_get}
use Rattle.ps_atom.specs.declared.atom.Atom.{Atom}
use Rattle.ps_basis.specs.Shown.{IsFor, IsNextFor}
use Rattle.ps_demand.specs.Candidates.{is_for}
use Rattle.ps_demand.specs.Demands.{demand, is_renaming}
use Rattle.ps_triple.specs.declared.entry.Entry.{Entry}
use Rattle.ps_triple.specs.declared.entry.Entry.TheVariants.{Triple as OfTriple, Initial as OfInitial}

-- none of the entries from one number to another is such a triple
abbrev HasNoneFor : List Entry → ℕ → ℕ → ℕ → ℕ → Type 0
HasNoneFor entries post command from to = (n : ℕ) → from ≤ n → n < to → ¬ IsFor entries post command n

pub not_chosen : {X : Type 0} (a b : Bool) (x : X) → (a ≢ true) → (if a && b then Some x else None) ≡ None
not_chosen false b x n = refl
not_chosen true b x n = absurd (n refl)

-- another entry demands nothing
pub other_demands_none : (entries : List Entry) (n thread command : ℕ) (q : Atom) (e : Entry) → slice_get entries n ≡ Some e → (¬ IsFor entries q.predicate command n) → demand thread command q e ≡ None
other_demands_none entries n thread command q (OfInitial i) at not_for = refl
other_demands_none entries n thread command q (OfTriple t) at not_for =
    not_chosen ((t.command == command) && (t.post.predicate == q.predicate)) (is_renaming (0 ∷ t.post.threads) (thread ∷ q.threads)) _ (λ h.
    let both = and_parts (t.command == command) (t.post.predicate == q.predicate) h in
    not_for (record { triple = t; stands = at; post_is = eqb-true t.post.predicate q.predicate both.1; command_is = eqb-true t.command command both.0 }))

-- it is for the post and the command exactly where it stands so
is_not : (entries : List Entry) (n post command : ℕ) (e : Entry) → slice_get entries n ≡ Some e → (¬ IsFor entries post command n) → is_for command post e ≡ false
is_not entries n post command (OfInitial i) at not_for = refl
is_not entries n post command (OfTriple t) at not_for = not_true ((t.command == command) && (t.post.predicate == post)) (λ h.
    let both = and_parts (t.command == command) (t.post.predicate == post) h in
    not_for (record { triple = t; stands = at; post_is = eqb-true t.post.predicate post both.1; command_is = eqb-true t.command command both.0 }))
  where
    not_true : (b : Bool) → (b ≢ true) → b ≡ false
    not_true true h = absurd (h refl)
    not_true false h = refl

is_so : (entries : List Entry) (n post command : ℕ) (e : Entry) → slice_get entries n ≡ Some e → IsFor entries post command n → is_for command post e ≡ true
is_so entries n post command e at is =
    let same : OfTriple is.triple ≡ e = some_is (OfTriple is.triple) e (sym is.stands ∙ at) in
    ap (is_for command post) (sym same) ∙ ap (λ (b : Bool). b && (is.triple.post.predicate == post)) (eq-eqb is.triple.command command is.command_is) ∙ eq-eqb is.triple.post.predicate post is.post_is
  where
    some_is : (x y : Entry) → Some x ≡ Some y → x ≡ y
    some_is x y e = cc

kept_not : (p : Entry → Bool) (e : Entry) (rest : List Entry) → p e ≡ false → filter p (e ∷ rest) ≡ filter p rest
kept_not p e rest h = ap (λ (b : Bool). if b then e ∷ filter p rest else filter p rest) h

kept_so : (p : Entry → Bool) (e : Entry) (rest : List Entry) → p e ≡ true → filter p (e ∷ rest) ≡ e ∷ filter p rest
kept_so p e rest h = ap (λ (b : Bool). if b then e ∷ filter p rest else filter p rest) h

-- other entries are passed
passed : (post command : ℕ) (entries : List Entry) (d : Entry) (count from : ℕ) → from + count ≤ length entries → HasNoneFor entries post command from (from + count)
    → filter (is_for command post) (drop from entries) ≡ filter (is_for command post) (drop (from + count) entries)
passed post command entries d zero from within none = ap (λ (n : ℕ). filter (is_for command post) (drop n entries)) (let e : from ≡ from + 0 = omega arith in e)
passed post command entries d (suc count) from within none =
    let inside : from < length entries = omega (arith, within) in
    let here : is_for command post (get_or entries from d) ≡ false = is_not entries from post command (get_or entries from d) (slice_get-get_or entries from d inside) (none from (omega arith) (omega arith)) in
    let first : filter (is_for command post) (drop from entries) ≡ filter (is_for command post) (drop (from + 1) entries) =
    ap (filter (is_for command post)) (drop_more entries from d inside) ∙ kept_not (is_for command post) (get_or entries from d) (drop (from + 1) entries) here in
    let rest = passed post command entries d count (from + 1) (omega (arith, within)) (λ n low high. none n (omega (arith, low)) (omega (arith, high))) in
    first ∙ (rest ∙ ap (λ (n : ℕ). filter (is_for command post) (drop n entries)) (let e : (from + 1) + count ≡ from + suc count = omega arith in e))

passed_to : (post command : ℕ) (entries : List Entry) (d : Entry) (from n : ℕ) → from ≤ n → n ≤ length entries → HasNoneFor entries post command from n
    → filter (is_for command post) (drop from entries) ≡ filter (is_for command post) (drop n entries)
passed_to post command entries d from n low high none =
    let at_end : from + (n - from) ≡ n = omega (arith, low) in
    passed post command entries d (n - from) from (omega (arith, low, high)) (subst (λ (m : ℕ). HasNoneFor entries post command from m) (sym at_end) none)
    ∙ ap (λ (m : ℕ). filter (is_for command post) (drop m entries)) at_end

-- the next triple is within the list
pub next_within : (entries : List Entry) (post command from n : ℕ) → IsNextFor entries post command from (Some n) → n < length entries
next_within entries post command from n next = slice_get_within entries n (OfTriple next.1.triple) next.1.stands

pub scan_more : (post command : ℕ) (entries : List Entry) (e : Entry) (from n : ℕ) (now later whole : List Entry) → IsNextFor entries post command from (Some n) → slice_get entries n ≡ Some e
    → later ≡ now ++ e ∷ [] → now ++ filter (is_for command post) (drop from entries) ≡ whole
    → later ++ filter (is_for command post) (drop (n + 1) entries) ≡ whole
scan_more post command entries e from n now later whole next is added all =
    let inside : n < length entries = next_within entries post command from n next in
    let same : get_or entries n e ≡ e = get_or_from_slice_get entries n e e is in
    let rest : List Entry = filter (is_for command post) (drop (n + 1) entries) in
    let step : filter (is_for command post) (drop n entries) ≡ e ∷ rest =
    ap (filter (is_for command post)) (drop_more entries n e inside ∙ ap (λ (x : Entry). x ∷ drop (n + 1) entries) same) ∙ kept_so (is_for command post) e (drop (n + 1) entries) (is_so entries n post command e is next.1) in
    let to_n : filter (is_for command post) (drop from entries) ≡ e ∷ rest = passed_to post command entries e from n next.0 (omega (arith, inside)) next.2 ∙ step in
    ap (λ (xs : List Entry). xs ++ rest) added ∙ (append_assoc now (e ∷ []) rest ∙ (ap (λ (xs : List Entry). now ++ xs) (sym to_n) ∙ all))

pub scan_end : (post command : ℕ) (entries : List Entry) (from : ℕ) (now whole : List Entry) → from ≤ length entries → IsNextFor entries post command from None
    → now ++ filter (is_for command post) (drop from entries) ≡ whole → now ≡ whole
scan_end post command entries from now whole within none all =
    let d : Entry = OfInitial (record { predicate = 0; lambda = [] }) in
    let ends : filter (is_for command post) (drop from entries) ≡ [] =
    passed_to post command entries d from (length entries) within (omega arith) (λ n low _. none n low) ∙ ap (filter (is_for command post)) (drop_all (length entries) entries (omega arith)) in
    sym (append-nil now) ∙ (ap (λ (xs : List Entry). now ++ xs) (sym ends) ∙ all)
