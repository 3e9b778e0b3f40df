-- What candidates demand, one after another and in two parts.
use Rattle.std.proofs.Common.{◌≡◌, ◌≢◌, ◌<◌, ◌+◌, ℕ, Bool, true, false, ◌&&◌, ◌==◌, List, [], ◌∷◌, ◌++◌, ◌⊎◌, inl, inr, map, take, length, get_or, refl, sym, ap, ap₂, ◌∙◌, subst, Contains, Option, Some, None, IfSome, if◌then◌else◌}
use Rattle.std.proofs.Math.Bool.{not}
use Rattle.std.proofs.Math.Dec.{eqb}
use Rattle.std.specs.List.{filter, filter_map, cons_option}
use Rattle.std.specs.Option.{option_eq, option_to_list}
use Rattle.std.proofs.lemmas.Bool.{eqb-true, false≢true, true≢false}
use Rattle.std.proofs.lemmas.List.{flat_map_more, map_push, take_more}
use Rattle.std.proofs.lemmas.List.Elements.{filter-append, filter_map-append}
use Rattle.ps_atom.specs.declared.atom.Atom.{Atom}
use Rattle.ps_demand.specs.Candidates.{candidates, demanded_of, has_no_only, is_for, only_atom, pairs_of}
use Rattle.ps_demand.specs.declared.candidate.Candidate.{Candidate}
use Rattle.ps_demand.specs.Demands.{demand, demands, is_renaming}
use Rattle.ps_triple.specs.declared.entry.Entry.{Entry}
use Rattle.ps_triple.specs.declared.entry.Entry.TheVariants.{Triple as OfTriple, Initial as OfInitial}
use Rattle.ps_triple.specs.declared.triple.Triple.{Triple}
use Rattle.ps_list.proofs.Mapped.{from_kept, kept}
use Rattle.ps_demand.proofs.Picked.{from_picked, picked}
use Rattle.ps_demand.proofs.Scanning.{not_chosen}

abbrev Pair : Type 0
Pair = Atom × Entry

-- ---- the demands of all candidates

none_demanded : (thread command : ℕ) (q : Atom) (t : Triple) → ((t.command == command) && (t.post.predicate == q.predicate)) ≡ false → demand thread command q (OfTriple t) ≡ None
none_demanded thread command q t e = not_chosen ((t.command == command) && (t.post.predicate == q.predicate)) (is_renaming (0 ∷ t.post.threads) (thread ∷ q.threads)) _ (λ h. true≢false (sym h ∙ e))

of_atom : (thread command : ℕ) (q : Atom) (entries : List Entry) → demanded_of thread command (map (λ (e : Entry). (q, e)) (filter (is_for command q.predicate) entries)) ≡ filter_map (demand thread command q) entries
of_atom thread command q [] = refl
of_atom thread command q (OfInitial i ∷ entries) = of_atom thread command q entries
of_atom thread command q (OfTriple t ∷ entries) = by_test ((t.command == command) && (t.post.predicate == q.predicate)) refl (of_atom thread command q entries)
  where
    rest : List Entry
    rest = filter (is_for command q.predicate) entries

    by_test : (b : Bool) → ((t.command == command) && (t.post.predicate == q.predicate)) ≡ b → demanded_of thread command (map (λ (e : Entry). (q, e)) rest) ≡ filter_map (demand thread command q) entries
        → demanded_of thread command (map (λ (e : Entry). (q, e)) (if b then OfTriple t ∷ rest else rest)) ≡ cons_option (demand thread command q (OfTriple t)) (filter_map (demand thread command q) entries)
    by_test true e h = ap (cons_option (demand thread command q (OfTriple t))) h
    by_test false e h = h ∙ ap (λ (o : Option (List Atom)). cons_option o (filter_map (demand thread command q) entries)) (sym (none_demanded thread command q t e))

pub all_demanded : (thread command : ℕ) (entries : List Entry) (atoms : List Atom) → demanded_of thread command (candidates entries atoms command) ≡ demands entries atoms thread command
all_demanded thread command entries [] = refl
all_demanded thread command entries (q ∷ atoms) =
    filter_map-append (λ (p : Pair). demand thread command p.0 p.1) (map (λ (e : Entry). (q, e)) (filter (is_for command q.predicate) entries)) (candidates entries atoms command)
    ∙ ap (λ (sets : List (List Atom)). sets ++ demanded_of thread command (candidates entries atoms command)) (of_atom thread command q entries)
    ∙ ap (λ (sets : List (List Atom)). filter_map (demand thread command q) entries ++ sets) (all_demanded thread command entries atoms)

-- ---- one candidate more

one_demanded : {X : Type 0} (o : Option X) → cons_option o [] ≡ option_to_list o
one_demanded None = refl
one_demanded (Some x) = refl

more_demanded : (thread command : ℕ) (pairs : List Pair) (p : Pair) → demanded_of thread command (pairs ++ p ∷ []) ≡ demanded_of thread command pairs ++ option_to_list (demand thread command p.0 p.1)
more_demanded thread command pairs p =
    filter_map-append (λ (r : Pair). demand thread command r.0 r.1) pairs (p ∷ []) ∙ ap (λ (sets : List (List Atom)). demanded_of thread command pairs ++ sets) (one_demanded (demand thread command p.0 p.1))

pub sets_more : (thread command : ℕ) (pairs : List Pair) (p : Pair) (sets later : List (List Atom)) → later ≡ sets ++ option_to_list (demand thread command p.0 p.1) → sets ≡ demanded_of thread command pairs → later ≡ demanded_of thread command (pairs ++ p ∷ [])
sets_more thread command pairs p sets later added h = added ∙ ap (λ (ss : List (List Atom)). ss ++ option_to_list (demand thread command p.0 p.1)) h ∙ sym (more_demanded thread command pairs p)

pub alone_more : (f : List Atom → Option Atom) (thread command : ℕ) (pairs : List Pair) (p : Pair) (alone later : List Atom) → later ≡ alone ++ filter_map f (option_to_list (demand thread command p.0 p.1)) → alone ≡ filter_map f (demanded_of thread command pairs) → later ≡ filter_map f (demanded_of thread command (pairs ++ p ∷ []))
alone_more f thread command pairs p alone later added h =
    added ∙ ap (λ (qs : List Atom). qs ++ filter_map f (option_to_list (demand thread command p.0 p.1))) h
    ∙ sym (filter_map-append f (demanded_of thread command pairs) (option_to_list (demand thread command p.0 p.1))) ∙ ap (filter_map f) (sym (more_demanded thread command pairs p))

pub others_more : (f : List Atom → Bool) (thread command : ℕ) (pairs : List Pair) (p : Pair) (others later : List (List Atom)) → later ≡ others ++ filter f (option_to_list (demand thread command p.0 p.1)) → others ≡ filter f (demanded_of thread command pairs) → later ≡ filter f (demanded_of thread command (pairs ++ p ∷ []))
others_more f thread command pairs p others later added h =
    added ∙ ap (λ (ss : List (List Atom)). ss ++ filter f (option_to_list (demand thread command p.0 p.1))) h
    ∙ sym (filter-append f (demanded_of thread command pairs) (option_to_list (demand thread command p.0 p.1))) ∙ ap (filter f) (sym (more_demanded thread command pairs p))

-- ---- a candidate of a list

pub pair_at : (list : List Candidate) (i : ℕ) (c : Candidate) → i < length list → c ≡ get_or list i c → pairs_of (take (i + 1) list) ≡ pairs_of (take i list) ++ (c.atom.now, c.entry.now) ∷ []
pair_at list i c inside is =
    ap pairs_of (take_more list i c inside ∙ ap (λ (x : Candidate). take i list ++ x ∷ []) (sym is)) ∙ map_push (λ (x : Candidate). (x.atom.now, x.entry.now)) (take i list) c

pub pair_pushed : (list new : List Candidate) (c : Candidate) → new ≡ list ++ c ∷ [] → pairs_of new ≡ pairs_of list ++ (c.atom.now, c.entry.now) ∷ []
pair_pushed list new c added = ap pairs_of added ∙ map_push (λ (x : Candidate). (x.atom.now, x.entry.now)) list c

-- ---- one atom more

pub candidates_more : (entries : List Entry) (atoms : List Atom) (command i : ℕ) (q : Atom) (known : List Entry) (was later : List Pair) → i < length atoms → q ≡ get_or atoms i q
    → known ≡ filter (is_for command q.predicate) entries → was ≡ candidates entries (take i atoms) command → later ≡ was ++ map (λ (e : Entry). (q, e)) known
    → later ≡ candidates entries (take (i + 1) atoms) command
candidates_more entries atoms command i q known was later inside is known_is was_is added =
    let of : Atom → List Pair = λ (atom : Atom). map (λ (e : Entry). (atom, e)) (filter (is_for command atom.predicate) entries) in
    added ∙ (ap₂ (λ (pairs : List Pair) (es : List Entry). pairs ++ map (λ (e : Entry). (q, e)) es) was_is known_is ∙ (flat_map_more of [] (take i atoms) q
    ∙ ap (λ (qs : List Atom). candidates entries qs command) (sym (take_more atoms i q inside ∙ ap (λ (x : Atom). take i atoms ++ x ∷ []) (sym is)))))

-- what is known for the last predicate is known for the atom's, if that is the last
pub known_for : (P : ℕ → Type 0) (last : Option ℕ) (p : ℕ) → last ≡ Some p → IfSome last P → P p
known_for P last p is known = subst (λ (o : Option ℕ). IfSome o P) is known

pub last_is : (last : Option ℕ) (p : ℕ) → false ≡ not (option_eq eqb last (Some p)) → last ≡ Some p
last_is None p e = absurd (false≢true e)
last_is (Some x) p e = ap Some (eqb-true x p (unturned (eqb x p) e))
  where
    unturned : (b : Bool) → false ≡ not b → b ≡ true
    unturned true h = refl
    unturned false h = h

-- ---- two parts of all

only_is : (set : List Atom) (q : Atom) → only_atom set ≡ Some q → set ≡ q ∷ []
only_is [] q e = absurd cc
only_is (x ∷ []) q e = ap (λ (y : Atom). y ∷ []) (some_is x q e)
  where
    some_is : (x y : Atom) → Some x ≡ Some y → x ≡ y
    some_is x y e = cc
only_is (x ∷ y ∷ ys) q e = absurd cc

-- an atom of the one part is alone in a demand
pub is_alone : (demands : List (List Atom)) (q : Atom) → Contains (filter_map only_atom demands) q → Contains demands (q ∷ [])
is_alone demands q h = let w = from_picked only_atom demands q h in subst (λ (set : List Atom). Contains demands set) (only_is w.0 q w.2) w.1

pub alone_is : (demands : List (List Atom)) (q : Atom) → Contains demands (q ∷ []) → Contains (filter_map only_atom demands) q
alone_is demands q h = picked only_atom demands (q ∷ []) q h refl

-- a demand is of one atom, or one of the other part
pub either_part : (demands : List (List Atom)) (set : List Atom) → Contains demands set → ((q : Atom) × (set ≡ q ∷ [])) ⊎ Contains (filter has_no_only demands) set
either_part demands [] h = inr (kept has_no_only demands [] h refl)
either_part demands (q ∷ []) h = inl (q, refl)
either_part demands (q ∷ r ∷ rs) h = inr (kept has_no_only demands (q ∷ r ∷ rs) h refl)

pub is_other : (demands : List (List Atom)) (set : List Atom) → Contains (filter has_no_only demands) set → Contains demands set × ((q : Atom) → set ≢ q ∷ [])
is_other demands set h = let k = from_kept has_no_only demands set h in (k.0, λ q e. true≢false (sym (sym (ap has_no_only e) ∙ k.1)))

pub other_is : (demands : List (List Atom)) (set : List Atom) → Contains demands set → ((q : Atom) → set ≢ q ∷ []) → Contains (filter has_no_only demands) set
other_is demands set h none = elim (either_part demands set h) [ inl w ↦ absurd (none w.0 w.1) | inr k ↦ k ]
