-- Commands are numbered one edge after another.
use Rattle.std.proofs.Common.{◌≡◌, Bool, true, false, cond, not, ◌&&◌, ◌||◌, refl, sym, ◌∙◌, ap, subst, ℕ, zero, suc, ◌+◌, ◌<◌, ◌≤◌, List, [], ◌∷◌, ◌++◌, map, length, inl, inr, arith, if◌then◌else◌, append_assoc, append-nil, length-append}
use Rattle.std.specs.Prelude.{Option, Some, option_map, slice_get, unwrap_or}
use Rattle.std.specs.Bool.{Decides}
use Rattle.std.specs.Cmp.Lexicographic.{pointwise}
use Rattle.std.specs.List.{AllByRecursion, AllZip, IsDistinct, list_any, position_or_len}
use Rattle.std.proofs.lemmas.Map.Made.{AllPairs-from_IsDistinct}
use Rattle.std.proofs.lemmas.Bool.Decides.{Decides-like}
use Rattle.std.proofs.lemmas.List.{length-map, map-append}
use Rattle.std.proofs.lemmas.Slice.Eq.{slice_eq-Decides}
use Rattle.ps_command.specs.Commands.{ops_of}
use Rattle.ps_command.specs.declared.command.Command.{Command}
use Rattle.ps_command.specs.declared.op.Op.{Op}
use Rattle.ps_compile.proofs.Facts.{in_order_below}
use Rattle.ps_compile.specs.Compiled.{AreInOrder, AreEdges}
use Rattle.ps_compile.specs.Layout.{Planned}
use Rattle.ps_compile.specs.declared.command_key.CommandKey.{CommandKey}
use Rattle.ps_compile.specs.declared.command_key.OpKey.{OpKey}
use Rattle.ps_compile.specs.declared.draft.Draft.{Draft}
use Rattle.ps_compile.specs.inner.Drafts.{draft_of}
use Rattle.ps_compile.specs.inner.KeyLaws.{key_decides, op_decides}
use Rattle.ps_compile.specs.inner.Keys.{command_of, key_of, key_eq, op_eq, op_key, op_key_eq}
use Rattle.ps_compile.specs.inner.Numbered.{AreNumberedDrafts, ComesFrom, FitsEdge, IsDraftEdge, AreNumberedSoFar}
use Rattle.ps_graph.specs.declared.edge.Edge.{Edge}

-- ---- a command that has a number keeps it where the table grows

get_more : {X : Type 0} (xs ys : List X) (n : ℕ) → n < length xs → slice_get (xs ++ ys) n ≡ slice_get xs n
get_more [] ys n h = let no_such : ⊥ = omega (arith, h) in absurd no_such
get_more (x ∷ xs) ys zero h = refl
get_more (x ∷ xs) ys (suc n) h = get_more xs ys n (omega (arith, h))

get_mapped : {X Y : Type 0} (f : X → Y) (xs : List X) (n : ℕ) → slice_get (map f xs) n ≡ option_map f (slice_get xs n)
get_mapped f [] n = refl
get_mapped f (x ∷ xs) zero = refl
get_mapped f (x ∷ xs) (suc n) = get_mapped f xs n

ops_more : (cs ds : List Command) (n : ℕ) → n < length cs → ops_of (cs ++ ds) n ≡ ops_of cs n
ops_more cs ds n h = ap (λ (o : Option Command). unwrap_or (option_map (λ (c : Command). c.ops) o) []) (get_more cs ds n h)

abbrev numbers : List Edge → List ℕ
numbers es = map (λ (e : Edge). e.command) es

drafts_more : (cs extra : List Command) (ds : List Draft) (es : List Edge) → AllByRecursion (λ (k : ℕ). k < length cs) (numbers es) →
    AllZip (IsDraftEdge cs) ds es → AllZip (IsDraftEdge (cs ++ extra)) ds es
drafts_more cs extra [] [] b h = tt
drafts_more cs extra [] (e ∷ es) b h = absurd h
drafts_more cs extra (d ∷ ds) [] b h = absurd h
drafts_more cs extra (d ∷ ds) (e ∷ es) b h = (
  record { source = h.0.source; target = h.0.target; ops = ops_more cs extra e.command b.0 ∙ h.0.ops; picks = h.0.picks },
  drafts_more cs extra ds es b.1 h.1,
)

drafts_push : (cs : List Command) (ds : List Draft) (es : List Edge) (d : Draft) (e : Edge) → AllZip (IsDraftEdge cs) ds es → IsDraftEdge cs d e →
    AllZip (IsDraftEdge cs) (ds ++ d ∷ []) (es ++ e ∷ [])
drafts_push cs [] [] d e h i = (i, tt)
drafts_push cs [] (f ∷ es) d e h i = absurd h
drafts_push cs (g ∷ ds) [] d e h i = absurd h
drafts_push cs (g ∷ ds) (f ∷ es) d e h i = (h.0, drafts_push cs ds es d e h.1 i)

in_order_old : (next : ℕ) (ns : List ℕ) (all n : ℕ) → AreInOrder next ns all → n < all → AreInOrder next (ns ++ n ∷ []) all
in_order_old next [] all n h l = inl (omega (arith, h, l), h)
in_order_old next (k ∷ ns) all n (inl h) l = inl (h.0, in_order_old next ns all n h.1 l)
in_order_old next (k ∷ ns) all n (inr h) l = inr (h.0, in_order_old (suc next) ns all n h.1 l)

in_order_new : (next : ℕ) (ns : List ℕ) (all : ℕ) → AreInOrder next ns all → AreInOrder next (ns ++ all ∷ []) (suc all)
in_order_new next [] all h = inr (sym h, ap suc h)
in_order_new next (k ∷ ns) all (inl h) = inl (h.0, in_order_new next ns all h.1)
in_order_new next (k ∷ ns) all (inr h) = inr (h.0, in_order_new (suc next) ns all h.1)

-- ---- where a key stands

none_stands : {X : Type 0} (p : X → Bool) (xs : List X) → list_any p xs ≡ false → position_or_len p xs ≡ length xs
none_stands p [] h = refl
none_stands p (x ∷ xs) h = at (p x) h (none_stands p xs)
  where
    at : (b : Bool) → (b || list_any p xs) ≡ false → (list_any p xs ≡ false → position_or_len p xs ≡ length xs) →
        cond (not b) (1 + position_or_len p xs) 0 ≡ suc (length xs)
    at true h rest = cc
    at false h rest = omega (arith, rest h)

one_stands : {X : Type 0} (p : X → Bool) (xs : List X) → list_any p xs ≡ true → position_or_len p xs < length xs
one_stands p [] h = cc
one_stands p (x ∷ xs) h = at (p x) h (one_stands p xs)
  where
    at : (b : Bool) → (b || list_any p xs) ≡ true → (list_any p xs ≡ true → position_or_len p xs < length xs) →
        cond (not b) (1 + position_or_len p xs) 0 < suc (length xs)
    at true h rest = omega arith
    at false h rest = omega (arith, rest h)

-- ---- the loop of the table

pub nothing_left : {X : Type 0} (xs : List X) → length xs ≡ 0 → xs ≡ []
nothing_left [] h = refl
nothing_left (x ∷ xs) h = let no_such : ⊥ = omega (arith, h) in absurd no_such

-- the edges that are numbered, and the drafts that are left
pub record Numbering (all rest : List Draft) (keys : List CommandKey) (es : List Edge) : Type 0 where
  pub done : List Draft
  pub is : done ++ rest ≡ all
  pub left : AllByRecursion FitsEdge rest
  pub edges : AllZip (IsDraftEdge (map command_of keys)) done es
  pub in_order : AreInOrder 0 (numbers es) (length keys)
  pub few : length keys ≤ length done
  pub used : AllByRecursion (λ (k : CommandKey). ComesFrom done (command_of k)) keys

pub numbering_starts : (all : List Draft) → AllByRecursion FitsEdge all → Numbering all all [] []
numbering_starts all h = record { done = []; is = refl; left = h; edges = tt; in_order = refl; few = omega arith; used = tt }

ops_back : (ops : List Op) → map (λ (o : OpKey). o.op) (map op_key ops) ≡ ops
ops_back [] = refl
ops_back (o ∷ ops) = ap (λ (l : List Op). o ∷ l) (ops_back ops)

-- the command that is stored
stored_ops : (keys : List CommandKey) (c : Command) (n : ℕ) (k : CommandKey) → slice_get keys n ≡ Some k → key_eq (key_of c) k ≡ true → ops_of (map command_of keys) n ≡ c.ops
stored_ops keys c n k e h =
    ap (λ (o : Option Command). unwrap_or (option_map (λ (c : Command). c.ops) o) [])
    (get_mapped command_of keys n ∙ ap (option_map command_of) (e ∙ ap Some (sym ((key_decides (key_of c) k).0 h))))
    ∙ ops_back c.ops

pub numbering_step : (all : List Draft) (d : Draft) (rest : List Draft) (old new : List CommandKey) (es : List Edge) (e : Edge) →
    Numbering all (d ∷ rest) old es → AreNumberedSoFar old new d e → Numbering all rest new (es ++ e ∷ [])
numbering_step all d rest old new es e s n = at (list_any (key_eq key) old) refl
  where
    key : CommandKey
    key = key_of d.route.command

    edge : IsDraftEdge (map command_of new) d e
    edge = record { source = n.source; target = n.target; ops = stored_ops new d.route.command e.command n.stored.0 n.stored.1 n.stored.2; picks = n.picks }

    more : length (s.done ++ d ∷ []) ≡ length s.done + 1
    more = length-append s.done (d ∷ [])

    from_more : (ds : List Draft) (c : Command) → ComesFrom ds c → ComesFrom (ds ++ d ∷ []) c
    from_more [] c h = absurd h
    from_more (x ∷ ds) c (inl e) = inl e
    from_more (x ∷ ds) c (inr h) = inr (from_more ds c h)

    from_last : (ds : List Draft) → ComesFrom (ds ++ d ∷ []) (command_of key)
    from_last [] = inl (ap (λ (os : List Op). let c : Command = record { ops = os } in c) (sym (ops_back d.route.command.ops)))
    from_last (x ∷ ds) = inr (from_last ds)

    used_more : (ks : List CommandKey) → AllByRecursion (λ (k : CommandKey). ComesFrom s.done (command_of k)) ks →
        AllByRecursion (λ (k : CommandKey). ComesFrom (s.done ++ d ∷ []) (command_of k)) ks
    used_more [] h = tt
    used_more (k ∷ ks) h = (from_more s.done (command_of k) h.0, used_more ks h.1)

    used_push : (ks : List CommandKey) → AllByRecursion (λ (k : CommandKey). ComesFrom (s.done ++ d ∷ []) (command_of k)) ks →
        AllByRecursion (λ (k : CommandKey). ComesFrom (s.done ++ d ∷ []) (command_of k)) (ks ++ key ∷ [])
    used_push [] h = (from_last s.done, tt)
    used_push (k ∷ ks) h = (h.0, used_push ks h.1)

    kept : new ≡ old → AllZip (IsDraftEdge (map command_of new)) s.done es
    kept is = subst (λ (ks : List CommandKey). AllZip (IsDraftEdge (map command_of ks)) s.done es) (sym is) s.edges

    grown : new ≡ old ++ key ∷ [] → AllZip (IsDraftEdge (map command_of new)) s.done es
    grown is = subst (λ (cs : List Command). AllZip (IsDraftEdge cs) s.done es) (sym (ap (map command_of) is ∙ map-append command_of old (key ∷ [])))
        (drafts_more (map command_of old) (command_of key ∷ []) s.done es
        (subst (λ (m : ℕ). AllByRecursion (λ (k : ℕ). k < m) (numbers es)) (sym (length-map old command_of)) (in_order_below 0 (numbers es) (length old) s.in_order).1) s.edges)

    at : (b : Bool) → list_any (key_eq key) old ≡ b → Numbering all rest new (es ++ e ∷ [])
    at true f =
        let is : new ≡ old = n.keys ∙ ap (λ (b : Bool). if b then old else old ++ key ∷ []) f in
        record {
          done = s.done ++ d ∷ [];
          is = append_assoc s.done (d ∷ []) rest ∙ s.is;
          left = s.left.1;
          edges = drafts_push (map command_of new) s.done es d e (kept is) edge;
          in_order = subst (λ (ns : List ℕ). AreInOrder 0 ns (length new)) (sym (map-append (λ (e : Edge). e.command) es (e ∷ [])))
              (subst (λ (ks : List CommandKey). AreInOrder 0 (numbers es ++ e.command ∷ []) (length ks)) (sym is)
              (in_order_old 0 (numbers es) (length old) e.command s.in_order (subst (λ (m : ℕ). m < length old) (sym n.number) (one_stands (key_eq key) old f))));
          few = (let k : length new ≡ length old = ap (λ (ks : List CommandKey). length ks) is in omega (arith, k, s.few, more));
          used = subst (λ (ks : List CommandKey). AllByRecursion (λ (k : CommandKey). ComesFrom (s.done ++ d ∷ []) (command_of k)) ks) (sym is) (used_more old s.used);
        }
    at false f =
        let is : new ≡ old ++ key ∷ [] = n.keys ∙ ap (λ (b : Bool). if b then old else old ++ key ∷ []) f in
        let longer : length new ≡ suc (length old) = ap (λ (ks : List CommandKey). length ks) is ∙ length-append old (key ∷ []) ∙ (let g : length old + 1 ≡ suc (length old) = omega arith in g) in
        record {
          done = s.done ++ d ∷ [];
          is = append_assoc s.done (d ∷ []) rest ∙ s.is;
          left = s.left.1;
          edges = drafts_push (map command_of new) s.done es d e (grown is) edge;
          in_order = subst (λ (ns : List ℕ). AreInOrder 0 ns (length new)) (sym (map-append (λ (e : Edge). e.command) es (e ∷ [])))
              (subst (λ (m : ℕ). AreInOrder 0 (numbers es ++ e.command ∷ []) m) (sym longer)
              (subst (λ (k : ℕ). AreInOrder 0 (numbers es ++ k ∷ []) (suc (length old))) (sym (n.number ∙ none_stands (key_eq key) old f))
              (in_order_new 0 (numbers es) (length old) s.in_order)));
          few = omega (arith, longer, s.few, more);
          used = subst (λ (ks : List CommandKey). AllByRecursion (λ (k : CommandKey). ComesFrom (s.done ++ d ∷ []) (command_of k)) ks) (sym is) (used_push old (used_more old s.used));
        }

-- ---- commands that differ

abbrev command_eq : Command → Command → Bool
command_eq a b = pointwise op_eq a.ops b.ops

command_decides : (a b : Command) → Decides (command_eq a b) (a ≡ b)
command_decides a b =
    Decides-like (command_eq a b) (λ e. ap (λ (os : List Op). let c : Command = record { ops = os } in c) e) (λ e. ap (λ (c : Command). c.ops) e)
    (slice_eq-Decides op_decides a.ops b.ops (pointwise op_eq a.ops b.ops) refl)

same_test : (xs ys : List OpKey) → pointwise op_eq (map (λ (o : OpKey). o.op) xs) (map (λ (o : OpKey). o.op) ys) ≡ pointwise op_key_eq xs ys
same_test [] [] = refl
same_test [] (y ∷ ys) = refl
same_test (x ∷ xs) [] = refl
same_test (x ∷ xs) (y ∷ ys) = ap (λ (b : Bool). op_eq x.op y.op && b) (same_test xs ys)

distinct_commands : (keys : List CommandKey) → IsDistinct key_eq keys → IsDistinct command_eq (map command_of keys)
unfolding IsDistinct
distinct_commands [] h = tt
distinct_commands (k ∷ keys) h = (each keys h.0, distinct_commands keys h.1)
  where
    each : (ks : List CommandKey) → AllByRecursion (λ (j : CommandKey). key_eq k j ≡ false) ks → AllByRecursion (λ (c : Command). command_eq (command_of k) c ≡ false) (map command_of ks)
    each [] h = tt
    each (j ∷ ks) h = (same_test k.ops j.ops ∙ h.0, each ks h.1)

pub numbering_done : (all : List Draft) (keys : List CommandKey) (es : List Edge) (commands : List Command) → Numbering all [] keys es → IsDistinct key_eq keys →
    commands ≡ map command_of keys → AreNumberedDrafts commands all es
numbering_done all keys es commands s d is = subst (λ (cs : List Command). AreNumberedDrafts cs all es) (sym is) (record {
  edges = subst (λ (ds : List Draft). AllZip (IsDraftEdge (map command_of keys)) ds es) (sym (append-nil s.done) ∙ s.is) s.edges;
  numbered = record {
    different = AllPairs-from_IsDistinct command_decides (map command_of keys) (distinct_commands keys d);
    in_order = subst (λ (m : ℕ). AreInOrder 0 (numbers es) m) (sym (length-map keys command_of)) s.in_order;
  };
  used = subst (λ (ds : List Draft). AllByRecursion (ComesFrom ds) (map command_of keys)) (sym (append-nil s.done) ∙ s.is) (mapped keys s.used);
})
  where
    mapped : (ks : List CommandKey) → AllByRecursion (λ (k : CommandKey). ComesFrom s.done (command_of k)) ks → AllByRecursion (ComesFrom s.done) (map command_of ks)
    mapped [] h = tt
    mapped (k ∷ ks) h = (h.0, mapped ks h.1)

-- ---- the edges are those of paths

pub planned_edges : (commands : List Command) (planned : List Planned) (es : List Edge) → AllZip (IsDraftEdge commands) (map draft_of planned) es → AreEdges commands planned es
planned_edges commands [] [] h = tt
planned_edges commands [] (e ∷ es) h = absurd h
planned_edges commands (p ∷ ps) [] h = absurd h
planned_edges commands (p ∷ ps) (e ∷ es) h = (record { source = h.0.source; target = h.0.target; ops = h.0.ops; picks = h.0.picks }, planned_edges commands ps es h.1)

-- ---- what holds of the commands of all drafts holds of the table

pub from_drafts : (P : List Op → Type 0) (ds : List Draft) (cs : List Command) → AllByRecursion (λ (d : Draft). P d.route.command.ops) ds → AllByRecursion (ComesFrom ds) cs →
    AllByRecursion (λ (c : Command). P c.ops) cs
from_drafts P ds [] h f = tt
from_drafts P ds (c ∷ cs) h f = (one ds c h f.0, from_drafts P ds cs h f.1)
  where
    one : (ds : List Draft) (c : Command) → AllByRecursion (λ (d : Draft). P d.route.command.ops) ds → ComesFrom ds c → P c.ops
    one [] c h f = absurd f
    one (d ∷ ds) c h (inl e) = subst (λ (b : Command). P b.ops) e h.0
    one (d ∷ ds) c h (inr f) = one ds c h.1 f
