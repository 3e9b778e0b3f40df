-- Whether the threads of one configuration are those of another after a step back.
use Rattle.std.proofs.Common.{◌≡◌, ◌≢◌, ℕ, Bool, true, false, ◌&&◌, ◌||◌, ◌==◌, List, refl, sym, subst, ◌∙◌, inl, inr, ◌⊎◌, Contains, if◌then◌else◌}
use Rattle.std.proofs.lemmas.Bool.{and_from, and_parts, both_ways, cases_eq, eq-eqb, eqb-false, eqb-true, false≢true, or_cases, or_left, or_right}
use Rattle.ps_config.specs.Configurations.{Configuration, IsAt}
use Rattle.ps_config.proofs.Tested.{all_from, all_to, any_from, any_to}
use Rattle.ps_graph.specs.declared.edge.Edge.{Edge}
use Rattle.ps_graph.specs.declared.graph.Graph.{Graph}
use Rattle.ps_step.specs.Steps.{GoesBack, IsDue, IsMovedTo}
use Rattle.ps_step.specs.inner.Going.{are_alone, came_from, is_at, is_moved, may_move, stay}
use Rattle.ps_step.proofs.Going.{alone_is, is_alone_of, moves, moving}
use Rattle.ps_step.proofs.Moved.{pair_is}

at_from : (at : List (ℕ × ℕ)) (t l : ℕ) → is_at at t l ≡ true → Contains at (t, l)
at_from at t l h =
    let w = any_from (λ (p : ℕ × ℕ). p.0 == t && p.1 == l) at h in
    let both = and_parts (w.0.0 == t) (w.0.1 == l) w.2 in
    subst (λ (p : ℕ × ℕ). Contains at p) (pair_is w.0.0 w.0.1 t l (eqb-true w.0.0 t both.0) (eqb-true w.0.1 l both.1)) w.1

at_to : (at : List (ℕ × ℕ)) (t l : ℕ) → Contains at (t, l) → is_at at t l ≡ true
at_to at t l h = any_to (λ (p : ℕ × ℕ). p.0 == t && p.1 == l) at (t, l) h (and_from (t == t) (l == l) (eq-eqb t t refl) (eq-eqb l l refl))

module _ (from to : Configuration) (thread source : ℕ) where
  came : ℕ × ℕ → Bool
  came p = if p.0 == thread then p.1 == source else is_at from.at p.0 p.1

  came_is : (t l : ℕ) (b : Bool) → (t == thread) ≡ b → (if b then l == source else is_at from.at t l) ≡ true → ((t ≡ thread) × (l ≡ source)) ⊎ ((t ≢ thread) × IsAt from t l)
  came_is t l true e h = inl (eqb-true t thread e, eqb-true l source h)
  came_is t l false e h = inr (eqb-false t thread e, at_from from.at t l h)

  is_came : (t l : ℕ) (b : Bool) → (t == thread) ≡ b → ((t ≡ thread) × (l ≡ source)) ⊎ ((t ≢ thread) × IsAt from t l) → (if b then l == source else is_at from.at t l) ≡ true
  is_came t l true e (inl is) = eq-eqb l source is.1
  is_came t l true e (inr other) = absurd (other.0 (eqb-true t thread e))
  is_came t l false e (inl is) = absurd (eqb-false t thread e is.0)
  is_came t l false e (inr other) = at_to from.at t l other.1

  pub moved_is : is_moved from.at thread source to.at ≡ true → IsMovedTo from thread source to
  moved_is h t l = (forth, back)
    where
      parts : (is_at to.at thread source ≡ true) × (stay from.at thread to.at ≡ true) × (came_from from.at thread source to.at ≡ true)
      parts = (let a = and_parts (is_at to.at thread source && stay from.at thread to.at) (came_from from.at thread source to.at) h in
          let b = and_parts (is_at to.at thread source) (stay from.at thread to.at) a.0 in (b.0, b.1, a.1))

      forth : IsAt to t l → ((t ≡ thread) × (l ≡ source)) ⊎ ((t ≢ thread) × IsAt from t l)
      forth i = came_is t l (t == thread) refl (all_from (λ (p : ℕ × ℕ). if p.0 == thread then p.1 == source else is_at from.at p.0 p.1) to.at parts.2 (t, l) i)

      back : ((t ≡ thread) × (l ≡ source)) ⊎ ((t ≢ thread) × IsAt from t l) → IsAt to t l
      back (inl is) = subst (λ (p : ℕ × ℕ). Contains to.at p) (pair_is thread source t l (sym is.0) (sym is.1)) (at_from to.at thread source parts.0)
      back (inr other) = elim (or_cases (t == thread) (is_at to.at t l) (all_from (λ (p : ℕ × ℕ). p.0 == thread || is_at to.at p.0 p.1) from.at parts.1 (t, l) other.1)) [
        | inl is ↦ absurd (other.0 (eqb-true t thread is))
        | inr stays ↦ at_from to.at t l stays
      ]

  pub is_moved_of : IsMovedTo from thread source to → is_moved from.at thread source to.at ≡ true
  is_moved_of m =
      and_from (is_at to.at thread source && stay from.at thread to.at) (came_from from.at thread source to.at)
      (and_from (is_at to.at thread source) (stay from.at thread to.at) (at_to to.at thread source ((m thread source).1 (inl (refl, refl))))
      (all_to (λ (p : ℕ × ℕ). p.0 == thread || is_at to.at p.0 p.1) from.at (λ p h. elim (cases_eq p.0 thread) [
        | inl is ↦ or_left (p.0 == thread) (is_at to.at p.0 p.1) (eq-eqb p.0 thread is)
        | inr other ↦ or_right (p.0 == thread) (is_at to.at p.0 p.1) (at_to to.at p.0 p.1 ((m p.0 p.1).1 (inr (other, h))))
      ])))
      (all_to (λ (p : ℕ × ℕ). if p.0 == thread then p.1 == source else is_at from.at p.0 p.1) to.at (λ p h. is_came p.0 p.1 (p.0 == thread) refl ((m p.0 p.1).0 h)))

-- ---- the tests one after another

module _ (graph : Graph) (from to : Configuration) (edge : Edge) (thread : ℕ) where
  pub not_was : (at : List (ℕ × ℕ)) (r : Bool) → at ≡ from.at → r ≡ may_move at thread edge.target → r ≡ false → (false ≡ true → GoesBack graph from edge thread to) × (GoesBack graph from edge thread to → false ≡ true)
  not_was at r is e unmet = ((λ h. absurd (false≢true h)), (λ g. absurd (both_ways r unmet (e ∙ moving from at thread edge.target is g.was))))

  pub not_moved : (at other : List (ℕ × ℕ)) (r : Bool) → at ≡ from.at → other ≡ to.at → r ≡ is_moved at thread edge.source other → r ≡ false → (false ≡ true → GoesBack graph from edge thread to) × (GoesBack graph from edge thread to → false ≡ true)
  not_moved at other r is are e unmet = (
    (λ h. absurd (false≢true h)),
    (λ g. absurd (both_ways r unmet (e ∙ subst (λ (ps : List (ℕ × ℕ)). is_moved ps thread edge.source other ≡ true) (sym is)
        (subst (λ (ps : List (ℕ × ℕ)). is_moved from.at thread edge.source ps ≡ true) (sym are) (is_moved_of from to thread edge.source g.is))))),
  )

  pub all_tested : (a b c d : List (ℕ × ℕ)) (w m r : Bool) → IsDue from edge thread → a ≡ from.at → w ≡ may_move a thread edge.target → w ≡ true → b ≡ from.at → c ≡ to.at → m ≡ is_moved b thread edge.source c → m ≡ true → d ≡ to.at → r ≡ are_alone graph d →
      (r ≡ true → GoesBack graph from edge thread to) × (GoesBack graph from edge thread to → r ≡ true)
  all_tested a b c d w m r due ia ew yw ib ic em ym id er = (
    (λ h. record {
      due = due;
      was = moves from a thread edge.target ia (sym ew ∙ yw);
      is = moved_is from to thread edge.source (subst (λ (ps : List (ℕ × ℕ)). is_moved ps thread edge.source to.at ≡ true) ib (subst (λ (ps : List (ℕ × ℕ)). is_moved b thread edge.source ps ≡ true) ic (sym em ∙ ym)));
      once = alone_is graph d to (sym id) (sym er ∙ h);
    }),
    (λ g. er ∙ is_alone_of graph d to (λ t l h. subst (λ (ps : List (ℕ × ℕ)). Contains ps (t, l)) id h) g.once),
  )
