-- The edges and commands of a program's exact graph are determined.
use Rattle.std.proofs.Common.{◌≡◌, ◌≢◌, Bool, true, false, nat_lt, refl, sym, ◌∙◌, ap, subst, ℕ, zero, suc, ◌<◌, ◌≤◌, List, [], ◌∷◌, map, length, inl, inr, arith}
use Rattle.std.specs.Prelude.{AllPairs, slice_index_or}
use Rattle.std.proofs.lemmas.Bool.Decides.{nat_tests}
use Rattle.ps_command.specs.Commands.{ops_of}
use Rattle.ps_command.specs.declared.command.Command.{Command}
use Rattle.ps_command.specs.declared.op.Op.{Op}
use Rattle.ps_compile.proofs.Facts.{in_order_below}
use Rattle.ps_compile.specs.Compiled.{AreEdges, AreInOrder, IsCompiled}
use Rattle.ps_compile.specs.Layout.{Planned, all_planned, body_sites}
use Rattle.ps_graph.specs.declared.edge.Edge.{Edge}
use Rattle.ps_graph.specs.declared.graph.Graph.{Graph}
use Rattle.ps_tree.specs.declared.program.Program.{Program}

abbrev no_ops : Command
no_ops = record { ops = [] }

abbrev numbers : List Edge → List ℕ
numbers es = map (λ (e : Edge). e.command) es

ops_at : (cs : List Command) (k : ℕ) → ops_of cs k ≡ (slice_index_or cs k no_ops).ops
ops_at [] k = refl
ops_at (c ∷ cs) zero = refl
ops_at (c ∷ cs) (suc k) = ops_at cs k

command_at : (cs : List Command) (i j : ℕ) → ops_of cs i ≡ ops_of cs j → slice_index_or cs i no_ops ≡ slice_index_or cs j no_ops
command_at cs i j e = ap (λ (os : List Op). let c : Command = record { ops = os } in c) (sym (ops_at cs i) ∙ e ∙ ops_at cs j)

-- a command has one number
one_number : (cs : List Command) (i j : ℕ) → AllPairs (λ (c d : Command). c ≢ d) cs → i < length cs → j < length cs → ops_of cs i ≡ ops_of cs j → i ≡ j
one_number cs i j d l m e = at (nat_lt i j) refl (nat_lt j i) refl
  where
    less : (a b : ℕ) → nat_lt a b ≡ true → a < b
    less a b h = grind (arith, nat_tests)

    equal : (a b : ℕ) → nat_lt a b ≡ false → nat_lt b a ≡ false → a ≡ b
    equal a b h k = grind (arith, nat_tests)

    at : (b : Bool) → nat_lt i j ≡ b → (c : Bool) → nat_lt j i ≡ c → i ≡ j
    at true h c k = absurd (d i j no_ops (less i j h) m (command_at cs i j e))
    at false h true k = absurd (d j i no_ops (less j i k) l (command_at cs j i (sym e)))
    at false h false k = equal i j h k

module _ (cs ds : List Command) (different_cs : AllPairs (λ (c d : Command). c ≢ d) cs) (different_ds : AllPairs (λ (c d : Command). c ≢ d) ds) where
  -- the commands below a number are the same
  abbrev Agree : ℕ → Type 0
  Agree n = (k : ℕ) → k < n → ops_of cs k ≡ ops_of ds k

  agree_more : (n : ℕ) → Agree n → ops_of cs n ≡ ops_of ds n → Agree (suc n)
  agree_more n a e k l = at (nat_lt k n) refl
    where
      less : nat_lt k n ≡ true → k < n
      less h = grind (arith, nat_tests)

      equal : nat_lt k n ≡ false → k ≡ n
      equal h = grind (arith, nat_tests)

      at : (b : Bool) → nat_lt k n ≡ b → ops_of cs k ≡ ops_of ds k
      at true h = a k (less h)
      at false h = subst (λ (m : ℕ). ops_of cs m ≡ ops_of ds m) (sym (equal h)) e

  record Same (es fs : List Edge) : Type 0 where
    pub edges : es ≡ fs
    pub counted : length cs ≡ length ds
    pub agree : Agree (length cs)

  same_edges : (n : ℕ) (ws : List Planned) (es fs : List Edge) → AreEdges cs ws es → AreEdges ds ws fs → AreInOrder n (numbers es) (length cs) →
      AreInOrder n (numbers fs) (length ds) → Agree n → Same es fs
  same_edges n [] [] [] g h o p a = record { edges = refl; counted = sym o ∙ p; agree = subst Agree o a }
  same_edges n [] [] (f ∷ fs) g h o p a = absurd h
  same_edges n [] (e ∷ es) fs g h o p a = absurd g
  same_edges n (w ∷ ws) [] fs g h o p a = absurd g
  same_edges n (w ∷ ws) (e ∷ es) [] g h o p a = absurd h
  same_edges n (w ∷ ws) (e ∷ es) (f ∷ fs) g h (inl o) (inl p) a =
      let r : Same es fs = same_edges n ws es fs g.1 h.1 o.1 p.1 a in
      joined r (one_number ds e.command f.command different_ds (omega (arith, o.0, (in_order_below n (numbers fs) (length ds) p.1).0)) (omega (arith, p.0, (in_order_below n (numbers fs) (length ds) p.1).0))
      (sym (a e.command o.0) ∙ g.0.ops ∙ sym h.0.ops))
    where
      joined : Same es fs → e.command ≡ f.command → Same (e ∷ es) (f ∷ fs)
      joined r c = record {
        edges = λ i. (record { source = (g.0.source ∙ sym h.0.source) i; target = (g.0.target ∙ sym h.0.target) i; command = c i; picks = (g.0.picks ∙ sym h.0.picks) i }) ∷ r.edges i;
        counted = r.counted;
        agree = r.agree;
      }
  same_edges n (w ∷ ws) (e ∷ es) (f ∷ fs) g h (inl o) (inr p) a =
      let many : suc n ≤ length ds = (in_order_below (suc n) (numbers fs) (length ds) p.1).0 in
      let same : e.command ≡ f.command = one_number ds e.command f.command different_ds (omega (arith, o.0, many)) (omega (arith, p.0, many)) (sym (a e.command o.0) ∙ g.0.ops ∙ sym h.0.ops) in
      let no_such : ⊥ = omega (arith, same, o.0, p.0) in absurd no_such
  same_edges n (w ∷ ws) (e ∷ es) (f ∷ fs) g h (inr o) (inl p) a =
      let many : suc n ≤ length cs = (in_order_below (suc n) (numbers es) (length cs) o.1).0 in
      let same : e.command ≡ f.command = one_number cs e.command f.command different_cs (omega (arith, o.0, many)) (omega (arith, p.0, many)) (g.0.ops ∙ sym h.0.ops ∙ sym (a f.command p.0)) in
      let no_such : ⊥ = omega (arith, same, o.0, p.0) in absurd no_such
  same_edges n (w ∷ ws) (e ∷ es) (f ∷ fs) g h (inr o) (inr p) a =
      let next : ops_of cs n ≡ ops_of ds n = ap (ops_of cs) (sym o.0) ∙ g.0.ops ∙ sym h.0.ops ∙ ap (ops_of ds) p.0 in
      joined (same_edges (suc n) ws es fs g.1 h.1 o.1 p.1 (agree_more n a next)) (o.0 ∙ sym p.0)
    where
      joined : Same es fs → e.command ≡ f.command → Same (e ∷ es) (f ∷ fs)
      joined r c = record {
        edges = λ i. (record { source = (g.0.source ∙ sym h.0.source) i; target = (g.0.target ∙ sym h.0.target) i; command = c i; picks = (g.0.picks ∙ sym h.0.picks) i }) ∷ r.edges i;
        counted = r.counted;
        agree = r.agree;
      }

same_commands : (cs ds : List Command) → length cs ≡ length ds → ((k : ℕ) → k < length cs → ops_of cs k ≡ ops_of ds k) → cs ≡ ds
same_commands [] [] e a = refl
same_commands [] (d ∷ ds) e a = let no_such : ⊥ = omega (arith, e) in absurd no_such
same_commands (c ∷ cs) [] e a = let no_such : ⊥ = omega (arith, e) in absurd no_such
same_commands (c ∷ cs) (d ∷ ds) e a =
    let first : c ≡ d = ap (λ (os : List Op). let b : Command = record { ops = os } in b) (a 0 (omega arith)) in
    let rest : cs ≡ ds = same_commands cs ds (omega (arith, e)) (λ k l. a (suc k) (omega (arith, l))) in
    λ i. first i ∷ rest i

both_same : (p : Program) (g h : Graph) → (a : IsCompiled p g) → (b : IsCompiled p h) →
    Same g.setting.commands h.setting.commands a.body.numbered.different b.body.numbered.different g.edges h.edges
both_same p g h a b =
    same_edges g.setting.commands h.setting.commands a.body.numbered.different b.body.numbered.different 0 (all_planned (body_sites p.body 0 2)) g.edges h.edges
    a.body.planned b.body.planned a.body.numbered.in_order b.body.numbered.in_order (λ k l. (let no_such : ⊥ = omega (arith, l) in absurd no_such))

pub edges_are_one : (p : Program) (g h : Graph) → IsCompiled p g → IsCompiled p h → g.edges ≡ h.edges
edges_are_one p g h a b = (both_same p g h a b).edges

pub commands_are_one : (p : Program) (g h : Graph) → IsCompiled p g → IsCompiled p h → g.setting.commands ≡ h.setting.commands
commands_are_one p g h a b = same_commands g.setting.commands h.setting.commands (both_same p g h a b).counted (both_same p g h a b).agree
