-- The initial states of a program are those of its rows.
use Rattle.std.proofs.Common.{◌≡◌, Bool, true, false, not, ◌&&◌, ◌||◌, ◌==◌, nat_lt, refl, sym, ◌∙◌, ap, ap₂, subst, ℕ, zero, suc, ◌+◌, ◌<◌, ℤ, pos, negsuc, neg_ℤ, ◌+ℤ◌, ◌*ℤ◌, ◌≤ℤ◌, List, [], ◌∷◌, ◌++◌, length, map, filter, cond, get_or, eq-eqb, arith}
use Rattle.std.specs.Prelude.{Option, Some, None, IsTrue, int_le}
use Rattle.std.specs.List.{list_all, list_any, flat_map, AllByRecursion}
use Rattle.std.specs.Ordering.{int_eq}
use Rattle.std.proofs.lemmas.Bool.{eqb-true}
use Rattle.std.proofs.lemmas.Bool.Decides.{nat_tests}
use Rattle.std.proofs.lemmas.Int.{ints}
use Rattle.ps_command.specs.Initial.{IsInitial}
use Rattle.ps_command.specs.Named.{is_local, names_local}
use Rattle.ps_command.specs.Run.{holds}
use Rattle.ps_command.specs.Values.{value_at}
use Rattle.ps_command.specs.declared.setting.Setting.{Setting}
use Rattle.ps_command.specs.declared.state.State.{State}
use Rattle.ps_compile.proofs.Worth.{bound_worth}
use Rattle.ps_graph.proofs.Bools.{and_assoc, or_false, same_test}
use Rattle.ps_graph.proofs.Truths.{any_hold-of_relation}
use Rattle.ps_graph.specs.Alternatives.{Bound, all_hold, any_hold, of_relation}
use Rattle.ps_compile.specs.Compiled.{first_alternative, relation_rows, value_rows, declared_rows, start_rows}
use Rattle.ps_graph.specs.Initial.{is_declared_value, start_as_declared, starts_well, is_initial}
use Rattle.ps_compile.specs.Ops.{bound_row}
use Rattle.ps_tree.specs.Cond.{is_true}
use Rattle.ps_tree.specs.declared.global_decl.GlobalDecl.{GlobalDecl}
use Rattle.ps_tree.specs.declared.program.Program.{Program}
use Rattle.ps_tree.specs.declared.relation.Relation.{Relation}
use Rattle.ps_tree.specs.declared.relation.Sign.{Sign}
use Rattle.ps_tree.specs.declared.sum.Sum.{Sum}
use Rattle.ps_tree.specs.declared.relation.Sign.TheVariants.{Less, LessEq, Greater, GreaterEq, Equal, NotEqual}
use Rattle.ps_term.specs.Pairs.{pairs_value}
use Rattle.ps_term.specs.declared.row.Row.{Row}
use Rattle.ps_term.specs.declared.var.Var.{Var}
use Rattle.ps_term.specs.declared.var.Var.TheVariants.{Global, Local, Havoc}

abbrev hold : (Var → ℤ) → List Row → Bool
hold v rows = list_all (holds v) rows

hold_append : (v : Var → ℤ) (xs ys : List Row) → hold v (xs ++ ys) ≡ (hold v xs && hold v ys)
hold_append v [] ys = refl
hold_append v (x ∷ xs) ys = ap (λ (b : Bool). holds v x && b) (hold_append v xs ys) ∙ sym (and_assoc (holds v x) (hold v xs) (hold v ys))

-- ---- relations

bounds_hold : (v : Var → ℤ) (bs : List Bound) → hold v (map bound_row bs) ≡ all_hold v bs
bounds_hold v [] = refl
bounds_hold v (b ∷ bs) = ap₂ (λ (x y : Bool). x && y) (ap (λ (n : ℤ). int_le n (pos 0)) (bound_worth v b)) (bounds_hold v bs)

-- the first alternative of a relation that has no other
alone_is : (v : Var → ℤ) (s : Sign) (a b : Sum) → ¬ (s ≡ NotEqual) → all_hold v (first_alternative (of_relation s a b)) ≡ any_hold v (of_relation s a b)
alone_is v Less a b n = sym (or_false _)
alone_is v LessEq a b n = sym (or_false _)
alone_is v Greater a b n = sym (or_false _)
alone_is v GreaterEq a b n = sym (or_false _)
alone_is v Equal a b n = sym (or_false _)
alone_is v NotEqual a b n = absurd (n refl)

first_alone : (v : Var → ℤ) (r : Relation) → ¬ (r.sign ≡ NotEqual) → all_hold v (first_alternative (of_relation r.sign r.left r.right)) ≡ is_true v r
first_alone v r n = alone_is v r.sign r.left r.right n ∙ any_hold-of_relation v r.sign r.left r.right

pub relations_hold : (v : Var → ℤ) (rs : List Relation) → AllByRecursion (λ (r : Relation). ¬ (r.sign ≡ NotEqual)) rs →
    hold v (flat_map relation_rows rs) ≡ list_all (is_true v) rs
relations_hold v [] n = refl
relations_hold v (r ∷ rs) n =
    hold_append v (relation_rows r) (flat_map relation_rows rs)
    ∙ ap₂ (λ (a b : Bool). a && b) (bounds_hold v (first_alternative (of_relation r.sign r.left r.right)) ∙ first_alone v r n.0) (relations_hold v rs n.1)

-- ---- declared values

int_le-yes : (a b : ℤ) → int_le a b ≡ true → a ≤ℤ b
int_le-yes a b h = grind (arith, ints)

yes-int_le : (a b : ℤ) → a ≤ℤ b → int_le a b ≡ true
yes-int_le a b h = grind (arith, ints)

int_eq-yes : (a b : ℤ) → int_eq a b ≡ true → a ≡ b
int_eq-yes a b h = grind (arith, ints)

yes-int_eq : (a b : ℤ) → a ≡ b → int_eq a b ≡ true
yes-int_eq a b h = grind (arith, ints)

-- x - z <= 0 and z - x <= 0
both_sides : (x z : ℤ) → (int_le (((pos 1 *ℤ x) +ℤ pos 0) +ℤ neg_ℤ z) (pos 0) && (int_le (((negsuc 0 *ℤ x) +ℤ pos 0) +ℤ z) (pos 0) && true)) ≡ int_eq z x
both_sides x z = same_test _ _ (both (int_le (((pos 1 *ℤ x) +ℤ pos 0) +ℤ neg_ℤ z) (pos 0)) (int_le (((negsuc 0 *ℤ x) +ℤ pos 0) +ℤ z) (pos 0)) refl refl)
    (λ h. let e : z ≡ x = int_eq-yes z x h in
    let l : int_le (((pos 1 *ℤ x) +ℤ pos 0) +ℤ neg_ℤ z) (pos 0) ≡ true = yes-int_le (((pos 1 *ℤ x) +ℤ pos 0) +ℤ neg_ℤ z) (pos 0) (omega (arith, ints, e)) in
    let r : int_le (((negsuc 0 *ℤ x) +ℤ pos 0) +ℤ z) (pos 0) ≡ true = yes-int_le (((negsuc 0 *ℤ x) +ℤ pos 0) +ℤ z) (pos 0) (omega (arith, ints, e)) in
    ap₂ (λ (a b : Bool). a && (b && true)) l r)
  where
    both : (p q : Bool) → int_le (((pos 1 *ℤ x) +ℤ pos 0) +ℤ neg_ℤ z) (pos 0) ≡ p → int_le (((negsuc 0 *ℤ x) +ℤ pos 0) +ℤ z) (pos 0) ≡ q →
        (p && (q && true)) ≡ true → int_eq z x ≡ true
    both true true l r h =
        let m : (((pos 1 *ℤ x) +ℤ pos 0) +ℤ neg_ℤ z) ≤ℤ pos 0 = int_le-yes _ _ l in
        let n : (((negsuc 0 *ℤ x) +ℤ pos 0) +ℤ z) ≤ℤ pos 0 = int_le-yes _ _ r in
        yes-int_eq z x (omega (arith, ints, m, n))
    both true false l r h = cc
    both false q l r h = cc

value_holds : (v : Var → ℤ) (n : ℕ) (o : Option ℤ) → hold v (value_rows n o) ≡ is_declared_value o (v (Global n))
value_holds v n None = refl
value_holds v n (Some z) = both_sides (v (Global n)) z

-- the values of globals from one number on
abbrev Gives : (Var → ℤ) → ℕ → List ℤ → Type 0
Gives v n [] = Unit {0}
Gives v n (z ∷ zs) = (v (Global n) ≡ z) × Gives v (suc n) zs

pub declared_hold : (v : Var → ℤ) (n : ℕ) (ds : List GlobalDecl) (zs : List ℤ) → Gives v n zs → length zs ≡ length ds →
    hold v (declared_rows n ds) ≡ start_as_declared ds zs
declared_hold v n [] [] g l = refl
declared_hold v n [] (z ∷ zs) g l = let no_such : ⊥ = omega (arith, l) in absurd no_such
declared_hold v n (d ∷ ds) [] g l = let no_such : ⊥ = omega (arith, l) in absurd no_such
declared_hold v n (d ∷ ds) (z ∷ zs) g l =
    hold_append v (value_rows n d.value) (declared_rows (suc n) ds)
    ∙ ap₂ (λ (a b : Bool). a && b) (value_holds v n d.value ∙ ap (is_declared_value d.value) g.0)
    (let shorter : length zs ≡ length ds = omega (arith, l) in declared_hold v (suc n) ds zs g.1 shorter)

-- as many values as declarations
pub declared_count : (ds : List GlobalDecl) (zs : List ℤ) → start_as_declared ds zs ≡ true → length zs ≡ length ds
declared_count [] [] h = refl
declared_count [] (z ∷ zs) h = let no_such : false ≡ true = h in cc
declared_count (d ∷ ds) [] h = let no_such : false ≡ true = h in cc
declared_count (d ∷ ds) (z ∷ zs) h = at (is_declared_value d.value z) h (declared_count ds zs)
  where
    at : (b : Bool) → (b && start_as_declared ds zs) ≡ true → (start_as_declared ds zs ≡ true → length zs ≡ length ds) → length (z ∷ zs) ≡ length (d ∷ ds)
    at true h rest = ap suc (rest h)
    at false h rest = let no_such : false ≡ true = h in cc

gives_from : (v : Var → ℤ) (n : ℕ) (zs : List ℤ) → ((i : ℕ) → v (Global (n + i)) ≡ get_or zs i (pos 0)) → Gives v n zs
gives_from v n [] h = tt
gives_from v n (z ∷ zs) h = (
  ap (λ (m : ℕ). v (Global m)) (let e : n ≡ n + 0 = omega arith in e) ∙ h 0,
  gives_from v (suc n) zs (λ i. ap (λ (m : ℕ). v (Global m)) (let e : suc n + i ≡ n + suc i = omega arith in e) ∙ h (suc i)),
)

gives_all : (zs ls : List ℤ) → Gives (value_at (record { globals = zs; locals = ls })) 0 zs
gives_all zs ls = gives_from (value_at (record { globals = zs; locals = ls })) 0 zs (λ i. ap (λ (m : ℕ). get_or zs m (pos 0)) (let e : 0 + i ≡ i = omega arith in e))

-- ---- rows of globals alone, and rows that name a local

swap : (h x y : Bool) → (h && (x && y)) ≡ (x && (h && y))
swap true true y = refl
swap true false y = refl
swap false true y = refl
swap false false y = refl

split_hold : (v : Var → ℤ) (f : Row → Bool) (rows : List Row) → hold v rows ≡ (hold v (filter (λ (r : Row). not (f r)) rows) && hold v (filter f rows))
split_hold v f [] = refl
split_hold v f (r ∷ rows) = ap (λ (b : Bool). holds v r && b) (split_hold v f rows) ∙ at (f r)
  where
    at : (b : Bool) → (holds v r && (hold v (filter (λ (r : Row). not (f r)) rows) && hold v (filter f rows)))
        ≡ (hold v (cond (not b) (r ∷ filter (λ (r : Row). not (f r)) rows) (filter (λ (r : Row). not (f r)) rows)) && hold v (cond b (r ∷ filter f rows) (filter f rows)))
    at true = swap (holds v r) (hold v (filter (λ (r : Row). not (f r)) rows)) (hold v (filter f rows))
    at false = sym (and_assoc (holds v r) (hold v (filter (λ (r : Row). not (f r)) rows)) (hold v (filter f rows)))

-- a row of globals alone holds of any thread's values alike
alike_pairs : (zs ls ms : List ℤ) (ps : List (Var × ℤ)) → list_any (λ (p : Var × ℤ). is_local p.0) ps ≡ false →
    pairs_value (value_at (record { globals = zs; locals = ls })) ps ≡ pairs_value (value_at (record { globals = zs; locals = ms })) ps
alike_pairs zs ls ms [] n = refl
alike_pairs zs ls ms (p ∷ ps) n = at p.0 refl (alike_pairs zs ls ms ps (later (is_local p.0) (list_any (λ (p : Var × ℤ). is_local p.0) ps) n))
  where
    later : (b c : Bool) → (b || c) ≡ false → c ≡ false
    later true c e = let no_such : true ≡ false = e in cc
    later false c e = e

    at : (x : Var) → p.0 ≡ x → pairs_value (value_at (record { globals = zs; locals = ls })) ps ≡ pairs_value (value_at (record { globals = zs; locals = ms })) ps →
        ((p.1 *ℤ value_at (record { globals = zs; locals = ls }) p.0) +ℤ pairs_value (value_at (record { globals = zs; locals = ls })) ps)
        ≡ ((p.1 *ℤ value_at (record { globals = zs; locals = ms }) p.0) +ℤ pairs_value (value_at (record { globals = zs; locals = ms })) ps)
    at (Global i) e rest = ap₂ (λ (a b : ℤ). (p.1 *ℤ a) +ℤ b) (ap (value_at (record { globals = zs; locals = ls })) e ∙ sym (ap (value_at (record { globals = zs; locals = ms })) e)) rest
    at (Havoc i) e rest = ap₂ (λ (a b : ℤ). (p.1 *ℤ a) +ℤ b) (ap (value_at (record { globals = zs; locals = ls })) e ∙ sym (ap (value_at (record { globals = zs; locals = ms })) e)) rest
    at (Local t i) e rest =
        let no_such : true ≡ false = sym (ap (λ (x : Var). is_local x || list_any (λ (p : Var × ℤ). is_local p.0) ps) e) ∙ n in cc

alike : (zs ls ms : List ℤ) (rows : List Row) →
    hold (value_at (record { globals = zs; locals = ls })) (filter (λ (r : Row). not (names_local r)) rows)
    ≡ hold (value_at (record { globals = zs; locals = ms })) (filter (λ (r : Row). not (names_local r)) rows)
alike zs ls ms [] = refl
alike zs ls ms (r ∷ rows) = at (names_local r) refl (alike zs ls ms rows)
  where
    at : (b : Bool) → names_local r ≡ b →
        hold (value_at (record { globals = zs; locals = ls })) (filter (λ (r : Row). not (names_local r)) rows)
        ≡ hold (value_at (record { globals = zs; locals = ms })) (filter (λ (r : Row). not (names_local r)) rows) →
        hold (value_at (record { globals = zs; locals = ls })) (cond (not b) (r ∷ filter (λ (r : Row). not (names_local r)) rows) (filter (λ (r : Row). not (names_local r)) rows))
        ≡ hold (value_at (record { globals = zs; locals = ms })) (cond (not b) (r ∷ filter (λ (r : Row). not (names_local r)) rows) (filter (λ (r : Row). not (names_local r)) rows))
    at true e h = h
    at false e h = ap₂ (λ (a b : Bool). a && b) (ap (λ (n : ℤ). int_le (n +ℤ r.term.constant) (pos 0)) (alike_pairs zs ls ms r.term.pairs e)) h

-- ---- initial states

all_at : {X : Type 0} → (test : X → Bool) (xs : List X) → list_all test xs ≡ true → (k : ℕ) (d : X) → k < length xs → test (get_or xs k d) ≡ true
all_at test [] h k d l = let no_such : ⊥ = omega (arith, l) in absurd no_such
all_at test (x ∷ xs) h k d l = at (test x) refl (list_all test xs) refl h k l (λ g j m. all_at test xs g j d m)
  where
    at : (b : Bool) → test x ≡ b → (c : Bool) → list_all test xs ≡ c → (b && c) ≡ true → (k : ℕ) → k < length (x ∷ xs) →
        (list_all test xs ≡ true → (j : ℕ) → j < length xs → test (get_or xs j d) ≡ true) → test (get_or (x ∷ xs) k d) ≡ true
    at true e c f g zero l rest = e
    at true e true f g (suc k) l rest = rest f k (omega (arith, l))
    at true e false f g (suc k) l rest = let no_such : false ≡ true = g in cc
    at false e c f g k l rest = let no_such : false ≡ true = g in cc

all_from : {X : Type 0} → (test : X → Bool) (xs : List X) (d : X) → ((k : ℕ) → k < length xs → test (get_or xs k d) ≡ true) → list_all test xs ≡ true
all_from test [] d h = refl
all_from test (x ∷ xs) d h = ap₂ (λ (a b : Bool). a && b) (h 0 (omega arith)) (all_from test xs d (λ k l. h (suc k) (omega (arith, l))))

and_left : (a b : Bool) → (a && b) ≡ true → a ≡ true
and_left true b e = refl
and_left false b e = e

and_right : (a b : Bool) → (a && b) ≡ true → b ≡ true
and_right true b e = e
and_right false b e = let no_such : false ≡ true = e in cc

-- what a thread with these locals sees
abbrev seen : List ℤ → List ℤ → Var → ℤ
seen zs ls = value_at (record { globals = zs; locals = ls })

start_hold : (p : Program) → AllByRecursion (λ (r : Relation). ¬ (r.sign ≡ NotEqual)) p.inits → (zs ls : List ℤ) → length zs ≡ length p.globals →
    hold (seen zs ls) (start_rows p) ≡ (start_as_declared p.globals zs && list_all (is_true (seen zs ls)) p.inits)
start_hold p n zs ls l =
    hold_append (seen zs ls) (declared_rows 0 p.globals) (flat_map relation_rows p.inits)
    ∙ ap₂ (λ (a b : Bool). a && b) (declared_hold (seen zs ls) 0 p.globals zs (gives_all zs ls) l) (relations_hold (seen zs ls) p.inits n)

pub initial_rows : (p : Program) (setting : Setting) (s : State) → AllByRecursion (λ (r : Relation). ¬ (r.sign ≡ NotEqual)) p.inits →
    setting.globals ≡ length p.globals → setting.locals ≡ length p.locals →
    setting.init_once ≡ filter (λ (r : Row). not (names_local r)) (start_rows p) → setting.init_each ≡ filter names_local (start_rows p) →
    (IsTrue (is_initial p s) → IsInitial setting s) × (IsInitial setting s → IsTrue (is_initial p s))
initial_rows p setting s n gs ls once each = (forth, back)
  where
    forth : is_initial p s ≡ true → IsInitial setting s
    forth h = record {
      threads = there;
      globals = count ∙ sym gs;
      locals = λ k d l. eqb-true _ _ (and_left _ (list_all (is_true (seen s.globals (get_or s.locals k d))) p.inits) (all_at (starts_well p s.globals) s.locals wells k d l)) ∙ sym ls;
      once = subst (λ (rows : List Row). hold (seen s.globals (get_or s.locals 0 [])) rows ≡ true) (sym once)
          (and_left _ (hold (seen s.globals (get_or s.locals 0 [])) (filter names_local (start_rows p))) (sym (split_hold (seen s.globals (get_or s.locals 0 [])) names_local (start_rows p)) ∙ all 0 there));
      each = λ k l. subst (λ (rows : List Row). hold (seen s.globals (get_or s.locals k [])) rows ≡ true) (sym each)
          (and_right (hold (seen s.globals (get_or s.locals k [])) (filter (λ (r : Row). not (names_local r)) (start_rows p))) _ (sym (split_hold (seen s.globals (get_or s.locals k [])) names_local (start_rows p)) ∙ all k l));
    }
      where
        there : 0 < length s.locals
        there = let t : nat_lt 0 (length s.locals) ≡ true = and_left (nat_lt 0 (length s.locals)) (start_as_declared p.globals s.globals)
            (and_left (nat_lt 0 (length s.locals) && start_as_declared p.globals s.globals) (list_all (starts_well p s.globals) s.locals) h) in grind (arith, nat_tests)

        declared : start_as_declared p.globals s.globals ≡ true
        declared = and_right (nat_lt 0 (length s.locals)) (start_as_declared p.globals s.globals)
            (and_left (nat_lt 0 (length s.locals) && start_as_declared p.globals s.globals) (list_all (starts_well p s.globals) s.locals) h)

        count : length s.globals ≡ length p.globals
        count = declared_count p.globals s.globals declared

        wells : list_all (starts_well p s.globals) s.locals ≡ true
        wells = and_right (nat_lt 0 (length s.locals) && start_as_declared p.globals s.globals) (list_all (starts_well p s.globals) s.locals) h

        all : (k : ℕ) → k < length s.locals → hold (seen s.globals (get_or s.locals k [])) (start_rows p) ≡ true
        all k l = start_hold p n s.globals (get_or s.locals k []) count
            ∙ ap₂ (λ (a b : Bool). a && b) declared (and_right (length (get_or s.locals k []) == length p.locals) _ (all_at (starts_well p s.globals) s.locals wells k [] l))

    back : IsInitial setting s → is_initial p s ≡ true
    back i = ap₂ (λ (a b : Bool). a && b)
        (ap₂ (λ (a b : Bool). a && b) (let t : 0 < length s.locals = i.threads in let u : nat_lt 0 (length s.locals) ≡ true = grind (arith, nat_tests) in u)
        (and_left _ _ (sym (start_hold p n s.globals (get_or s.locals 0 []) count) ∙ all 0 i.threads)))
        (all_from (starts_well p s.globals) s.locals [] (λ k l. ap₂ (λ (a b : Bool). a && b)
        (eq-eqb _ _ (i.locals k [] l ∙ ls))
        (and_right (start_as_declared p.globals s.globals) _ (sym (start_hold p n s.globals (get_or s.locals k []) count) ∙ all k l))))
      where
        count : length s.globals ≡ length p.globals
        count = i.globals ∙ gs

        all : (k : ℕ) → k < length s.locals → hold (seen s.globals (get_or s.locals k [])) (start_rows p) ≡ true
        all k l = split_hold (seen s.globals (get_or s.locals k [])) names_local (start_rows p)
            ∙ ap₂ (λ (a b : Bool). a && b)
            (alike s.globals (get_or s.locals k []) (get_or s.locals 0 []) (start_rows p)
            ∙ subst (λ (rows : List Row). hold (seen s.globals (get_or s.locals 0 [])) rows ≡ true) once i.once)
            (subst (λ (rows : List Row). hold (seen s.globals (get_or s.locals k [])) rows ≡ true) each (i.each k l))
