-- The limits inside a block, with blocks as lists.
use Rattle.std.proofs.Common.{◌≡◌, refl, sym, ◌∙◌, ap, ap₂, subst, ℕ, suc, ◌+◌, ◌-◌, ◌^◌, ◌<◌, min, List, [], ◌∷◌, ◌++◌, length, drop, get_or, drop-cons, arith, append_assoc}
use Rattle.ps_compile.specs.Checks.{Check, NoneIsExceeded, alternatives_checks, count_check, inside, inside_all, inner_checks, paths_checks}
use Rattle.ps_compile.specs.inner.Counts.{going, failing, paths_of}
use Rattle.ps_graph.specs.Paths.{Act}
use Rattle.ps_compile.proofs.Counting.{all_paths, paths_list}
use Rattle.ps_tree.specs.declared.cond.Test.{Test}
use Rattle.ps_tree.specs.declared.limit_name.LimitName.TheVariants as limit
use Rattle.ps_tree.specs.declared.stmt.Stmt.{Stmt}
use Rattle.ps_tree.specs.declared.stmt.StmtKind.{StmtKind, Row_of-Stmt, end_of-Stmt, more_of-Stmt, items-the_row-Stmt}
use Rattle.ps_tree.specs.declared.stmt.StmtKind.TheVariants.{Atomic, If}
use Rattle.ps_tree.specs.declared.stmt.StmtKind.TheBlock.{hidden-the_row-Stmt-0, items_hidden-the_row-Stmt-0}
use Rattle.ps_token.specs.declared.place.Place.{Place}
use Rattle.ps_compile.specs.inner.Inside.{inside_of}
use Rattle.ps_compile.specs.Ends.{IsCompileEnd}
use Rattle.ps_compile.specs.declared.compile_end.CompileEnd.{CompileEnd}
use Rattle.ps_compile.proofs.Testing.{StillTests, still_more, still_end, end_right, none_append}

inside_row : {n : _} (row : Row_of-Stmt n) → inside_all row ≡ inside_of (items-the_row-Stmt n row)
inside_row end_of-Stmt = refl
inside_row (more_of-Stmt place k rest) = ap (λ (l : List Check). alternatives_checks place k ++ (inside k ++ l)) (inside_row rest)

inside_list : (b : List Stmt) → inside_all (hidden-the_row-Stmt-0 b) ≡ inside_of b
inside_list b = inside_row (hidden-the_row-Stmt-0 b) ∙ ap inside_of (items_hidden-the_row-Stmt-0 b)

pub inside_atomic : (k : StmtKind) (b slice : List Stmt) → k ≡ Atomic b → slice ≡ b → inside_of slice ≡ inside k
inside_atomic k b slice e s = ap inside_of s ∙ sym (inside_list b) ∙ ap inside (sym e)

pub inner_atomic : (k : StmtKind) (b slice : List Stmt) → k ≡ Atomic b → slice ≡ b → inside_of slice ≡ inner_checks k
inner_atomic k b slice e s = ap inside_of s ∙ sym (inside_list b) ∙ ap inner_checks (sym e)

pub paths_atomic : (place : Place) (k : StmtKind) (b slice : List Stmt) → k ≡ Atomic b → slice ≡ b → count_check place limit.Paths (length (paths_of slice)) 64 ∷ [] ≡ paths_checks place k
paths_atomic place k b slice e s =
    ap (λ (ps : List (List Act)). count_check place limit.Paths (length ps) 64 ∷ []) (ap paths_of s ∙ sym (paths_list b)) ∙ ap (paths_checks place) (sym e)

pub inside_if : (k : StmtKind) (t : Test) (a b sa sb : List Stmt) → k ≡ If t a b → sa ≡ a → sb ≡ b → inside_of sa ++ inside_of sb ≡ inside k
inside_if k t a b sa sb e f g = ap₂ (λ (x y : List Check). x ++ y) (ap inside_of f ∙ sym (inside_list a)) (ap inside_of g ∙ sym (inside_list b)) ∙ ap inside (sym e)

pub many : (g f sum : ℕ) (ps : List (List Act)) → g ≡ min (going ps) 65 → f ≡ min (failing ps) 65 → sum ≡ min (g + f) (2 ^ 64 - 1) → 64 < sum → 64 < length ps
many g f sum ps a b s l = omega (arith, a, b, s, l, all_paths ps)

pub few : (g f sum : ℕ) (ps : List (List Act)) → g ≡ min (going ps) 65 → f ≡ min (failing ps) 65 → sum ≡ min (g + f) (2 ^ 64 - 1) → ¬ (64 < sum) → ¬ (64 < length ps)
few g f sum ps a b s l = λ m. l (omega (arith, a, b, s, m, all_paths ps))

inside_here : (ms : List Stmt) (i : ℕ) (m : Stmt) → i < length ms → m ≡ get_or ms i m → inside_of (drop i ms) ≡ (alternatives_checks m.place m.kind ++ inside m.kind) ++ inside_of (drop (i + 1) ms)
inside_here ms i m l e =
    ap inside_of (drop-cons ms i m l ∙ ap₂ (λ (x : Stmt) (k : ℕ). x ∷ drop k ms) (sym e) (let f : suc i ≡ i + 1 = omega arith in f))
    ∙ sym (append_assoc (alternatives_checks m.place m.kind) (inside m.kind) (inside_of (drop (i + 1) ms)))

none_both : (xs ys : List Check) → NoneIsExceeded xs → NoneIsExceeded ys → NoneIsExceeded (xs ++ ys)
none_both xs ys f g = none_append xs ys f g

pub within_step : (ms : List Stmt) (i : ℕ) (m : Stmt) → i < length ms → m ≡ get_or ms i m → StillTests (inside_of (drop i ms)) (inside_of ms) →
    NoneIsExceeded (alternatives_checks m.place m.kind) → NoneIsExceeded (inside m.kind) → StillTests (inside_of (drop (i + 1) ms)) (inside_of ms)
within_step ms i m l e s f g =
    still_more (alternatives_checks m.place m.kind ++ inside m.kind) (inside_of (drop (i + 1) ms)) (inside_of ms)
    (subst (λ (c : List Check). StillTests c (inside_of ms)) (inside_here ms i m l e) s) (none_both (alternatives_checks m.place m.kind) (inside m.kind) f g)

pub within_end : (ms : List Stmt) (i : ℕ) (m : Stmt) (end : CompileEnd) → i < length ms → m ≡ get_or ms i m → StillTests (inside_of (drop i ms)) (inside_of ms) →
    NoneIsExceeded (alternatives_checks m.place m.kind) → IsCompileEnd (inside m.kind) end → IsCompileEnd (inside_of ms) end
within_end ms i m end l e s f h =
    still_end (alternatives_checks m.place m.kind ++ inside m.kind) (inside_of (drop (i + 1) ms)) (inside_of ms)
    (subst (λ (c : List Check). StillTests c (inside_of ms)) (inside_here ms i m l e) s) end (end_right (alternatives_checks m.place m.kind) (inside m.kind) end f h)
