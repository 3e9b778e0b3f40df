-- The commands of a program that is compiled, and its rows at the start, name declared variables alone.
use Rattle.std.proofs.Common.{◌≡◌, Bool, true, false, not, ◌&&◌, refl, ap₂, ℕ, suc, ◌+◌, ◌<◌, ℤ, pos, negsuc, ◌+ℤ◌, ◌*ℤ◌, List, [], ◌∷◌, ◌++◌, map, length, if◌then◌else◌, IsTrue, arith}
use Rattle.std.specs.Prelude.{Option, Some, None, filter, nat_lt, cond}
use Rattle.std.specs.List.{AllByRecursion, flat_map, list_all, list_any}
use Rattle.std.specs.Ordering.{int_eq}
use Rattle.std.proofs.lemmas.Bool.Decides.{nat_tests}
use Rattle.ps_command.specs.Named.{is_declared, is_declared_op, is_declared_row, is_local, names_local}
use Rattle.ps_compile.specs.Compiled.{declared_rows, first_alternative, relation_rows, start_rows, value_rows}
use Rattle.ps_compile.specs.Conditions.{IsCompilable, IsCompilableProduct, IsCompilableSum, IsCompilableRelation, IsCompilableCond, AreCompilableConds, IsCompilableTest, IsCompilableStmt, IsCompilableBlock}
use Rattle.ps_compile.specs.Layout.{Site, Planned, planned_at, planned_from, all_planned, body_sites, end_of_body, opened, opened_of, inner, inner_all, sites, sites_all, sites_of, start_location, block_start}
use Rattle.ps_compile.specs.Ops.{bound_row, ops_on, sum_term, with_products}
use Rattle.ps_graph.specs.Alternatives.{Bound, opposite, of_relation, product, alternatives, one_of_each, one_of_any}
use Rattle.ps_graph.specs.Follows.{going_to}
use Rattle.ps_graph.specs.Paths.{Act, Guards, Assigns, Havocs, Chooses, Fails, is_failing, guarded_by, ways, followed, paths, paths_all}
use Rattle.ps_term.specs.Exact.{kept_before, number_term, with_pair}
use Rattle.ps_term.specs.Var.{var_eq, var_lt}
use Rattle.ps_term.specs.declared.row.Row.{Row}
use Rattle.ps_term.specs.declared.term.Term.{Term}
use Rattle.ps_term.specs.declared.var.Var.{Var}
use Rattle.ps_term.specs.declared.var.Var.TheVariants.{Global, Local, Havoc as HavocVar}
use Rattle.ps_token.specs.declared.place.Place.{Place}
use Rattle.ps_tree.specs.declared.cond.Cond.{Cond, Rel, Not', And', Or', Row_of-Cond, end_of-Cond, more_of-Cond}
use Rattle.ps_tree.specs.declared.cond.Test.{Test}
use Rattle.ps_tree.specs.declared.cond.Test.TheVariants.{Star, Cond as Where}
use Rattle.ps_tree.specs.declared.global_decl.GlobalDecl.{GlobalDecl}
use Rattle.ps_tree.specs.declared.program.Program.{Program}
use Rattle.ps_tree.specs.declared.relation.Relation.{Relation}
use Rattle.ps_tree.specs.declared.relation.Sign.{Sign}
use Rattle.ps_tree.specs.declared.relation.Sign.TheVariants.{Less, LessEq, Greater, GreaterEq, Equal, NotEqual}
use Rattle.ps_tree.specs.declared.stmt.Stmt.{Stmt}
use Rattle.ps_tree.specs.declared.stmt.StmtKind.{StmtKind, Assign, Havoc, Assume, Assert, Skip, Atomic', If', While', Row_of-Stmt, end_of-Stmt, more_of-Stmt}
use Rattle.ps_tree.specs.declared.sum.Sum.{Sum}

-- ---- lists

pub all_joined : {X : Type 0} (P : X → Type 0) (xs ys : List X) → AllByRecursion P xs → AllByRecursion P ys → AllByRecursion P (xs ++ ys)
all_joined P [] ys h k = k
all_joined P (x ∷ xs) ys h k = (h.0, all_joined P xs ys h.1 k)

all_mapped : {X Y : Type 0} (P : X → Type 0) (Q : Y → Type 0) (f : X → Y) → ((x : X) → P x → Q (f x)) → (xs : List X) → AllByRecursion P xs → AllByRecursion Q (map f xs)
all_mapped P Q f step [] h = tt
all_mapped P Q f step (x ∷ xs) h = (step x h.0, all_mapped P Q f step xs h.1)

pub both : (a b : Bool) → a ≡ true → b ≡ true → (a && b) ≡ true
both a b e f = ap₂ (λ (x y : Bool). x && y) e f

pub left_of : (a b : Bool) → (a && b) ≡ true → a ≡ true
left_of true b e = refl
left_of false b e = e

pub right_of : (a b : Bool) → (a && b) ≡ true → b ≡ true
right_of true b e = e
right_of false b e = let no_such : false ≡ true = e in cc

pub all_tests_joined : {X : Type 0} (test : X → Bool) (xs ys : List X) → list_all test xs ≡ true → list_all test ys ≡ true → list_all test (xs ++ ys) ≡ true
all_tests_joined test [] ys e f = f
all_tests_joined test (x ∷ xs) ys e f =
    both (test x) (list_all test (xs ++ ys)) (left_of (test x) (list_all test xs) e) (all_tests_joined test xs ys (right_of (test x) (list_all test xs) e) f)

module _ (g l : ℕ) where
  -- ---- terms

  abbrev named : Var × ℤ → Bool
  named p = is_declared g l p.0

  kept_named : (x : Var) (n : ℤ) (ps : List (Var × ℤ)) → is_declared g l x ≡ true → list_all named ps ≡ true → list_all named (kept_before x n ps) ≡ true
  kept_named x n ps d e = at (int_eq n (pos 0))
    where
      at : (t : Bool) → list_all named (if t then ps else (x, n) ∷ ps) ≡ true
      at true = e
      at false = both (is_declared g l x) (list_all named ps) d e

  pair_named : (x : Var) (n : ℤ) (ps : List (Var × ℤ)) → is_declared g l x ≡ true → list_all named ps ≡ true → list_all named (with_pair x n ps) ≡ true
  pair_named x n [] d e = kept_named x n [] d refl
  pair_named x n (p ∷ ps) d e = at (var_eq x p.0) (var_lt x p.0) (pair_named x n ps d (right_of (named p) (list_all named ps) e))
    where
      at : (t u : Bool) → list_all named (with_pair x n ps) ≡ true →
          list_all named (if t then kept_before x (n +ℤ p.1) ps else if u then kept_before x n (p ∷ ps) else p ∷ with_pair x n ps) ≡ true
      at true u h = kept_named x (n +ℤ p.1) ps d (right_of (named p) (list_all named ps) e)
      at false true h = kept_named x n (p ∷ ps) d e
      at false false h = both (named p) (list_all named (with_pair x n ps)) (left_of (named p) (list_all named ps) e) h

  products_named : (by : ℤ) (ps : List (ℤ × Option Var)) (t : Term) → AllByRecursion (IsCompilableProduct g l) ps → list_all named t.pairs ≡ true →
      list_all named (with_products by ps t).pairs ≡ true
  products_named by [] t h f = f
  products_named by ((n, None) ∷ ps) t h f = products_named by ps t h.1 f
  products_named by ((n, Some x) ∷ ps) t h f = pair_named x (by *ℤ n) (with_products by ps t).pairs h.0.1 (products_named by ps t h.1 f)

  sum_named : (s : Sum) → IsCompilableSum g l s → list_all named (sum_term s).pairs ≡ true
  sum_named s h = products_named (pos 1) s.terms (number_term (pos 0)) h refl

  -- both sides of a bound
  abbrev NamesBound : Bound → Type 0
  NamesBound b = IsCompilableSum g l b.left × IsCompilableSum g l b.right

  bound_named : (b : Bound) → NamesBound b → is_declared_row g l (bound_row b) ≡ true
  bound_named b h =
      products_named (pos 1) b.left.terms (with_products (negsuc 0) b.right.terms (number_term b.plus)) h.0
      (products_named (negsuc 0) b.right.terms (number_term b.plus) h.1 refl)

  -- ---- paths

  abbrev pub NamesAct : Act → Type 0
  NamesAct (Guards b) = NamesBound b
  NamesAct (Assigns x s) = IsTrue (is_declared g l x) × IsCompilableSum g l s
  NamesAct (Havocs x) = IsTrue (is_declared g l x)
  NamesAct _ = Unit {0}

  abbrev pub NamesPath : List Act → Type 0
  NamesPath p = AllByRecursion NamesAct p

  -- the ops of a path whose acts name declared variables
  pub ops_named : (p : List Act) → NamesPath p → list_all (is_declared_op g l) (ops_on p) ≡ true
  ops_named [] h = refl
  ops_named (Guards b ∷ p) h = both (is_declared_row g l (bound_row b)) (list_all (is_declared_op g l) (ops_on p)) (bound_named b h.0) (ops_named p h.1)
  ops_named (Assigns x s ∷ p) h =
      both (is_declared g l x && list_all named (sum_term s).pairs) (list_all (is_declared_op g l) (ops_on p))
      (both (is_declared g l x) (list_all named (sum_term s).pairs) h.0.0 (sum_named s h.0.1)) (ops_named p h.1)
  ops_named (Havocs x ∷ p) h = both (is_declared g l x) (list_all (is_declared_op g l) (ops_on p)) h.0 (ops_named p h.1)
  ops_named (Chooses b ∷ p) h = ops_named p h.1
  ops_named (Fails ∷ p) h = refl

  abbrev NamesAlternative : List Bound → Type 0
  NamesAlternative bs = AllByRecursion NamesBound bs

  product_named : (xs ys : List (List Bound)) → AllByRecursion NamesAlternative xs → AllByRecursion NamesAlternative ys → AllByRecursion NamesAlternative (product xs ys)
  product_named [] ys h k = tt
  product_named (x ∷ xs) ys h k =
      all_joined NamesAlternative (map (λ (y : List Bound). x ++ y) ys) (product xs ys)
      (all_mapped NamesAlternative NamesAlternative (λ (y : List Bound). x ++ y) (λ y m. all_joined NamesBound x y h.0 m) ys k)
      (product_named xs ys h.1 k)

  pub relation_named : (s : Sign) (a b : Sum) → IsCompilableSum g l a → IsCompilableSum g l b → AllByRecursion NamesAlternative (of_relation s a b)
  relation_named Less a b h k = (((h, k), tt), tt)
  relation_named LessEq a b h k = (((h, k), tt), tt)
  relation_named Greater a b h k = (((k, h), tt), tt)
  relation_named GreaterEq a b h k = (((k, h), tt), tt)
  relation_named Equal a b h k = (((h, k), ((k, h), tt)), tt)
  relation_named NotEqual a b h k = (((h, k), tt), (((k, h), tt), tt))

  mutual
    alternatives_named : (b : Bool) (c : Cond) → IsCompilableCond g l c → AllByRecursion NamesAlternative (alternatives b c)
    alternatives_named true (Rel r) h = relation_named r.sign r.left r.right h.0 h.1
    alternatives_named false (Rel r) h = relation_named (opposite r.sign) r.left r.right h.0 h.1
    alternatives_named true (Not' _ (more_of-Cond c end_of-Cond)) h = alternatives_named false c h.0
    alternatives_named false (Not' _ (more_of-Cond c end_of-Cond)) h = alternatives_named true c h.0
    alternatives_named true (And' _ members) h = each_named true members h
    alternatives_named false (And' _ members) h = any_named false members h
    alternatives_named true (Or' _ members) h = any_named true members h
    alternatives_named false (Or' _ members) h = each_named false members h

    each_named : (b : Bool) {n : _} (row : Row_of-Cond n) → AreCompilableConds g l row → AllByRecursion NamesAlternative (one_of_each b row)
    each_named b end_of-Cond h = (tt, tt)
    each_named b (more_of-Cond c rest) h = product_named (alternatives b c) (one_of_each b rest) (alternatives_named b c h.0) (each_named b rest h.1)

    any_named : (b : Bool) {n : _} (row : Row_of-Cond n) → AreCompilableConds g l row → AllByRecursion NamesAlternative (one_of_any b row)
    any_named b end_of-Cond h = tt
    any_named b (more_of-Cond c rest) h = all_joined NamesAlternative (alternatives b c) (one_of_any b rest) (alternatives_named b c h.0) (any_named b rest h.1)

  guarded_named : (bs : List Bound) → NamesAlternative bs → NamesPath (guarded_by bs)
  guarded_named bs h = all_mapped NamesBound NamesAct Guards (λ b m. m) bs h

  held_named : (alts : List (List Bound)) → AllByRecursion NamesAlternative alts → AllByRecursion NamesPath (map guarded_by alts)
  held_named alts h = all_mapped NamesAlternative NamesPath guarded_by guarded_named alts h

  failed_named : (alts : List (List Bound)) → AllByRecursion NamesAlternative alts → AllByRecursion NamesPath (map (λ (bs : List Bound). guarded_by bs ++ Fails ∷ []) alts)
  failed_named alts h =
      all_mapped NamesAlternative NamesPath (λ (bs : List Bound). guarded_by bs ++ Fails ∷ [])
      (λ bs m. all_joined NamesAct (guarded_by bs) (Fails ∷ []) (guarded_named bs m) (tt, tt)) alts h

  followed_named : (ps qs : List (List Act)) → AllByRecursion NamesPath ps → AllByRecursion NamesPath qs → AllByRecursion NamesPath (followed ps qs)
  followed_named [] qs h k = tt
  followed_named (p ∷ ps) qs h k =
      all_joined NamesPath (if is_failing p then p ∷ [] else map (λ (q : List Act). p ++ q) qs) (followed ps qs) (at (is_failing p)) (followed_named ps qs h.1 k)
    where
      at : (t : Bool) → AllByRecursion NamesPath (if t then p ∷ [] else map (λ (q : List Act). p ++ q) qs)
      at true = (h.0, tt)
      at false = all_mapped NamesPath NamesPath (λ (q : List Act). p ++ q) (λ q m. all_joined NamesAct p q h.0 m) qs k

  ways_named : (b : Bool) (t : Test) → IsCompilableTest g l t → AllByRecursion NamesPath (ways b t)
  ways_named b Star h = ((tt, tt), tt)
  ways_named b (Where c) h = held_named (alternatives b c) (alternatives_named b c h)

  -- the paths of a statement, and of a block, name what it names
  mutual
    pub paths_named : (inside : Bool) (k : StmtKind) → IsCompilableStmt g l inside k → AllByRecursion NamesPath (paths k)
    paths_named inside (Assign x s) h = (((h.0, h.1), tt), tt)
    paths_named inside (Havoc x) h = ((h, tt), tt)
    paths_named inside (Assume c) h = held_named (alternatives true c) (alternatives_named true c h)
    paths_named inside (Assert c) h =
        all_joined NamesPath (map guarded_by (alternatives true c)) (map (λ (bs : List Bound). guarded_by bs ++ Fails ∷ []) (alternatives false c))
        (held_named (alternatives true c) (alternatives_named true c h)) (failed_named (alternatives false c) (alternatives_named false c h))
    paths_named inside Skip h = (tt, tt)
    paths_named inside (Atomic' _ block) h = block_named true block h
    paths_named inside (If' t _ held _ failed) h =
        all_joined NamesPath (followed (ways true t) (paths_all held)) (followed (ways false t) (paths_all failed))
        (followed_named (ways true t) (paths_all held) (ways_named true t h.0) (block_named inside held h.1))
        (followed_named (ways false t) (paths_all failed) (ways_named false t h.0) (block_named inside failed h.2))
    paths_named inside (While' _ _ _) h = tt

    pub block_named : (inside : Bool) {n : _} (row : Row_of-Stmt n) → IsCompilableBlock g l inside row → AllByRecursion NamesPath (paths_all row)
    block_named inside end_of-Stmt h = (tt, tt)
    block_named inside (more_of-Stmt _ k rest) h = followed_named (paths k) (paths_all rest) (paths_named inside k h.0) (block_named inside rest h.1)

  -- ---- sites

  abbrev NamesSite : Site → Type 0
  NamesSite s = AllByRecursion (λ (p : List Act × ℕ). NamesPath p.0) s.paths

  going_named : (goal : ℕ) (ps : List (List Act)) → AllByRecursion NamesPath ps → AllByRecursion (λ (p : List Act × ℕ). NamesPath p.0) (going_to goal ps)
  going_named goal [] h = tt
  going_named goal (p ∷ ps) h = (h.0, going_named goal ps h.1)

  mutual
    sites_named : (inside : Bool) (place : Place) (k : StmtKind) (a z next : ℕ) → IsCompilableStmt g l inside k → AllByRecursion NamesSite (sites place k a z next)
    sites_named inside place (If' t i held j failed) a z next h = (
      all_joined (λ (p : List Act × ℕ). NamesPath p.0) (going_to (start_location held z next) (ways true t)) (going_to (start_location failed z (next + opened held)) (ways false t))
          (going_named (start_location held z next) (ways true t) (ways_named true t h.0))
          (going_named (start_location failed z (next + opened held)) (ways false t) (ways_named false t h.0)),
      all_joined NamesSite
          (sites_all held (start_location held z next) z (next + (opened held + opened failed)))
          (sites_all failed (start_location failed z (next + opened held)) z ((next + (opened held + opened failed)) + inner_all held))
          (all_sites_named inside held (start_location held z next) z (next + (opened held + opened failed)) h.1)
          (all_sites_named inside failed (start_location failed z (next + opened held)) z ((next + (opened held + opened failed)) + inner_all held) h.2),
    )
    sites_named inside place (While' t i block) a z next h = (
      all_joined (λ (p : List Act × ℕ). NamesPath p.0) (going_to (start_location block a next) (ways true t)) (going_to z (ways false t))
          (going_named (start_location block a next) (ways true t) (ways_named true t h.1))
          (going_named z (ways false t) (ways_named false t h.1)),
      all_sites_named inside block (start_location block a next) a (next + opened block) h.2,
    )
    sites_named inside place (Atomic' n block) a z next h = (going_named z (paths_all block) (block_named true block h), tt)
    sites_named inside place (Assign x s) a z next h = (going_named z (paths (Assign x s)) (paths_named inside (Assign x s) h), tt)
    sites_named inside place (Havoc x) a z next h = (going_named z (paths (Havoc x)) (paths_named inside (Havoc x) h), tt)
    sites_named inside place (Assume c) a z next h = (going_named z (paths (Assume c)) (paths_named inside (Assume c) h), tt)
    sites_named inside place (Assert c) a z next h = (going_named z (paths (Assert c)) (paths_named inside (Assert c) h), tt)
    sites_named inside place Skip a z next h = (going_named z (paths Skip) (paths_named inside Skip h), tt)

    all_sites_named : (inside : Bool) {n : _} (row : Row_of-Stmt n) (a z next : ℕ) → IsCompilableBlock g l inside row → AllByRecursion NamesSite (sites_all row a z next)
    all_sites_named inside end_of-Stmt a z next h = tt
    all_sites_named inside (more_of-Stmt place k rest) a z next h =
        all_joined NamesSite (sites place k a (start_location rest z next) (next + opened rest)) (sites_all rest (start_location rest z next) z ((next + opened rest) + inner k))
        (sites_named inside place k a (start_location rest z next) (next + opened rest) h.0)
        (all_sites_named inside rest (start_location rest z next) z ((next + opened rest) + inner k) h.1)

  list_named : (inside : Bool) (block : List Stmt) (a z next : ℕ) → AllByRecursion (λ (s : Stmt). IsCompilableStmt g l inside s.kind) block → AllByRecursion NamesSite (sites_of block a z next)
  list_named inside [] a z next h = tt
  list_named inside (s ∷ rest) a z next h =
      all_joined NamesSite (sites s.place s.kind a (block_start rest z next) (next + opened_of rest)) (sites_of rest (block_start rest z next) z ((next + opened_of rest) + inner s.kind))
      (sites_named inside s.place s.kind a (block_start rest z next) (next + opened_of rest) h.0)
      (list_named inside rest (block_start rest z next) z ((next + opened_of rest) + inner s.kind) h.1)

  -- the edge that is planned names declared variables alone
  abbrev pub IsNamedPlan : Planned → Type 0
  IsNamedPlan w = list_all (is_declared_op g l) (ops_on w.path) ≡ true

  planned_named : (ss : List Site) → AllByRecursion NamesSite ss → AllByRecursion IsNamedPlan (all_planned ss)
  planned_named [] h = tt
  planned_named (s ∷ ss) h = all_joined IsNamedPlan (planned_at s) (all_planned ss) (at s.paths h.0) (planned_named ss h.1)
    where
      at : (ps : List (List Act × ℕ)) → AllByRecursion (λ (p : List Act × ℕ). NamesPath p.0) ps → AllByRecursion IsNamedPlan (planned_from s.at ps)
      at [] m = tt
      at (p ∷ ps) m = (ops_named p.0 m.0, at ps m.1)

  -- ---- rows at the start

  relation_rows_named : (r : Relation) → IsCompilableRelation g l r → list_all (is_declared_row g l) (relation_rows r) ≡ true
  relation_rows_named r h = at (of_relation r.sign r.left r.right) (relation_named r.sign r.left r.right h.0 h.1)
    where
      rows : (bs : List Bound) → NamesAlternative bs → list_all (is_declared_row g l) (map bound_row bs) ≡ true
      rows [] m = refl
      rows (b ∷ bs) m = both (is_declared_row g l (bound_row b)) (list_all (is_declared_row g l) (map bound_row bs)) (bound_named b m.0) (rows bs m.1)

      at : (alts : List (List Bound)) → AllByRecursion NamesAlternative alts → list_all (is_declared_row g l) (map bound_row (first_alternative alts)) ≡ true
      at [] m = refl
      at (bs ∷ alts) m = rows bs m.0

  relations_named : (rs : List Relation) → AllByRecursion (IsCompilableRelation g l) rs → list_all (is_declared_row g l) (flat_map relation_rows rs) ≡ true
  relations_named [] h = refl
  relations_named (r ∷ rs) h =
      all_tests_joined (is_declared_row g l) (relation_rows r) (flat_map relation_rows rs) (relation_rows_named r h.0) (relations_named rs h.1)

  values_named : (n : ℕ) (v : Option ℤ) → n < g → list_all (is_declared_row g l) (value_rows n v) ≡ true
  values_named n None less = refl
  values_named n (Some z) less =
      both (list_all named (with_pair (Global n) (pos 1) [])) (list_all named (with_pair (Global n) (negsuc 0) []) && true)
      (pair_named (Global n) (pos 1) [] declared refl)
      (both (list_all named (with_pair (Global n) (negsuc 0) [])) true (pair_named (Global n) (negsuc 0) [] declared refl) refl)
    where
      declared : is_declared g l (Global n) ≡ true
      declared = grind (arith, nat_tests, less)

  globals_named : (n : ℕ) (ds : List GlobalDecl) → n + length ds ≡ g → list_all (is_declared_row g l) (declared_rows n ds) ≡ true
  globals_named n [] e = refl
  globals_named n (d ∷ ds) e =
      all_tests_joined (is_declared_row g l) (value_rows n d.value) (declared_rows (suc n) ds)
      (values_named n d.value (omega (arith, e))) (globals_named (suc n) ds (omega (arith, e)))

  -- rows on their side
  side_named : (test : Row → Bool) (rs : List Row) → list_all (is_declared_row g l) rs ≡ true → list_all (is_declared_row g l) (filter test rs) ≡ true
  side_named test [] h = refl
  side_named test (r ∷ rs) h = at (test r) (side_named test rs (right_of (is_declared_row g l r) (list_all (is_declared_row g l) rs) h))
    where
      at : (t : Bool) → list_all (is_declared_row g l) (filter test rs) ≡ true → list_all (is_declared_row g l) (cond t (r ∷ filter test rs) (filter test rs)) ≡ true
      at true rest = both (is_declared_row g l r) (list_all (is_declared_row g l) (filter test rs)) (left_of (is_declared_row g l r) (list_all (is_declared_row g l) rs) h) rest
      at false rest = rest

  -- a row that names no local needs none
  without_locals : (ps : List (Var × ℤ)) → list_all named ps ≡ true → list_any (λ (p : Var × ℤ). is_local p.0) ps ≡ false →
      list_all (λ (p : Var × ℤ). is_declared g 0 p.0) ps ≡ true
  without_locals [] h k = refl
  without_locals ((Global n, z) ∷ ps) h k =
      both (nat_lt n g) (list_all (λ (p : Var × ℤ). is_declared g 0 p.0) ps) (left_of (nat_lt n g) (list_all named ps) h)
      (without_locals ps (right_of (nat_lt n g) (list_all named ps) h) k)
  without_locals ((Local t n, z) ∷ ps) h k = cc
  without_locals ((HavocVar n, z) ∷ ps) h k = cc

  once_named : (rs : List Row) → list_all (is_declared_row g l) rs ≡ true → list_all (is_declared_row g 0) (filter (λ (r : Row). not (names_local r)) rs) ≡ true
  once_named [] h = refl
  once_named (r ∷ rs) h = at (names_local r) refl (once_named rs (right_of (is_declared_row g l r) (list_all (is_declared_row g l) rs) h))
    where
      at : (t : Bool) → names_local r ≡ t → list_all (is_declared_row g 0) (filter (λ (s : Row). not (names_local s)) rs) ≡ true →
          list_all (is_declared_row g 0) (cond (not t) (r ∷ filter (λ (s : Row). not (names_local s)) rs) (filter (λ (s : Row). not (names_local s)) rs)) ≡ true
      at true e rest = rest
      at false e rest =
          both (is_declared_row g 0 r) (list_all (is_declared_row g 0) (filter (λ (s : Row). not (names_local s)) rs))
          (without_locals r.term.pairs (left_of (is_declared_row g l r) (list_all (is_declared_row g l) rs) h) e) rest

-- rows that pass a test, of those that do
pub each_passes : (test : Row → Bool) (rs : List Row) → list_all test (filter test rs) ≡ true
each_passes test [] = refl
each_passes test (r ∷ rs) = at (test r) refl (each_passes test rs)
  where
    at : (t : Bool) → test r ≡ t → list_all test (filter test rs) ≡ true → list_all test (cond t (r ∷ filter test rs) (filter test rs)) ≡ true
    at true e rest = both (test r) (list_all test (filter test rs)) e rest
    at false e rest = rest

-- ---- programs

-- every command of the body names declared variables alone
pub body_named : (p : Program) → IsCompilable p → AllByRecursion (IsNamedPlan (length p.globals) (length p.locals)) (all_planned (body_sites p.body 0 2))
body_named p h =
    planned_named (length p.globals) (length p.locals) (body_sites p.body 0 2)
    (list_named (length p.globals) (length p.locals) false p.body 0 (end_of_body p.body 0 2) (2 + opened_of p.body) h.body)

start_named : (p : Program) → IsCompilable p → list_all (is_declared_row (length p.globals) (length p.locals)) (start_rows p) ≡ true
start_named p h =
    all_tests_joined (is_declared_row (length p.globals) (length p.locals)) (declared_rows 0 p.globals) (flat_map relation_rows p.inits)
    (globals_named (length p.globals) (length p.locals) 0 p.globals (omega arith))
    (relations_named (length p.globals) (length p.locals) p.inits h.inits)

-- so does every row at the start, one that holds once names globals alone
pub once_declared : (p : Program) → IsCompilable p → IsTrue (list_all (is_declared_row (length p.globals) 0) (filter (λ (r : Row). not (names_local r)) (start_rows p)))
once_declared p h = once_named (length p.globals) (length p.locals) (start_rows p) (start_named p h)

pub each_declared : (p : Program) → IsCompilable p → IsTrue (list_all (is_declared_row (length p.globals) (length p.locals)) (filter names_local (start_rows p)))
each_declared p h = side_named (length p.globals) (length p.locals) names_local (start_rows p) (start_named p h)

pub each_local : (p : Program) → IsTrue (list_all names_local (filter names_local (start_rows p)))
each_local p = each_passes names_local (start_rows p)
