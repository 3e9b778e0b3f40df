-- The definitions give the worked answers.
use Rattle.std.proofs.Common.{◌↔◌, ◌≤◌, ℤ, pos, negsuc, ◌≢◌, ◌≤ℤ◌, ◌<ℤ◌, [], ◌∷◌, FitsSigned, unsigned_abs, inl, refl, arith}
use Rattle.std.specs.Int.{w128}
use Rattle.std.proofs.lemmas.Int.{ints}
use Rattle.std.proofs.lemmas.List.Elements.{All-nil, All-cons, All-head, All-tail, All-from_recursion}
use Rattle.ps_term.specs.declared.row.Row.{Row}
use Rattle.ps_term.specs.declared.var.Var.{Var}
use Rattle.ps_term.specs.declared.var.Var.TheVariants.{Global}
use Rattle.ps_term.specs.Pairs.{coefficient}
use Rattle.ps_walk.specs.Bounds.{Allows, HoldsWith, IsLower, IsUpper, BoundFits, StageFits}
use Rattle.ps_walk.specs.Examples.{FarEndsWalk, FarIsPast, NoneIsBetween, NothingIsWalked, SecondIsMissed, SixIsFound, SixIsLower, SixIsNearest, below, far, first_of_three, from_6, one_row, over, second_of_three, stage_of, three, zero_row}
use Rattle.ps_walk.specs.Rows.{PassesRow}
use Rattle.ps_walk.specs.Walking.{IsFoundValue}
use Rattle.ps_walk.specs.Values.{value_found}
use Rattle.ps_walk.proofs.RowBounds.{fits_above, fits_below}

holds_from_6 : (v : Var → ℤ) (n : ℤ) → HoldsWith v (Global 0) from_6 n ↔ (pos 6 ≤ℤ n)
holds_from_6 v n = (λ h. omega (arith, ints, h), λ h. omega (arith, ints, h))

pub lower_is_6 : SixIsLower
lower_is_6 v n =
    (λ h. (holds_from_6 v n).0 (All-head (λ r. coefficient (Global 0) r.term.pairs <ℤ pos 0 → HoldsWith v (Global 0) r n) from_6 [] h (omega (arith, ints))), λ h. All-cons (λ r. coefficient (Global 0) r.term.pairs <ℤ pos 0 → HoldsWith v (Global 0) r n) from_6 [] (λ lt. (holds_from_6 v n).1 h) (All-nil (λ r. coefficient (Global 0) r.term.pairs <ℤ pos 0 → HoldsWith v (Global 0) r n)))

pub nearest_is_6 : SixIsNearest
nearest_is_6 = record { allows = omega (arith, ints); nearest = far }
  where
    far : (m : ℤ) → pos 6 ≤ℤ m → 6 ≤ unsigned_abs m
    far (pos k) h = omega (arith, ints)
    far (negsuc k) h = absurd (omega (arith, ints))

pub nothing : NothingIsWalked
nothing = (tt, λ k d l. absurd (omega arith))

pub past : FarIsPast
past v f =
    let no : FitsSigned w128 (pos 170141183460469231731687303715884105728) = f.upper (pos 170141183460469231731687303715884105728) (λ n. (λ h. omega (arith, ints, h), λ h. omega (arith, ints, h))) in
    omega (arith, no.sfits)

pub far_ends : FarEndsWalk
far_ends = inl (record {
  before = [];
  here = stage_of (Global 0) ((1 ∷ []) ∷ []) (far ∷ []);
  after = [];
  is = refl;
  later = [];
  found = tt;
  stops = λ fits. past (value_found []) (All-head (λ r. coefficient (Global 0) r.term.pairs ≢ pos 0 → BoundFits (value_found []) (Global 0) r) far [] fits (λ e. omega (arith, ints, e)));
})

fits_6 : FitsSigned w128 (pos 6)
fits_6 = record { sfits = omega arith }

stage_fits : (v : Var → ℤ) → StageFits v (Global 0) (from_6 ∷ [])
stage_fits v =
    All-from_recursion (λ r. coefficient (Global 0) r.term.pairs ≢ pos 0 → BoundFits v (Global 0) r) (from_6 ∷ []) (λ _. fits_below v (Global 0) from_6 (pos 6) fits_6 fits_6 (holds_from_6 v), tt)

allows_from_6 : (v : Var → ℤ) (n : ℤ) → Allows v (Global 0) (from_6 ∷ []) n ↔ (pos 6 ≤ℤ n)
allows_from_6 v n =
    (λ h. (lower_is_6 v n).0 h.0, λ h. ((lower_is_6 v n).1 h, All-from_recursion (λ r. pos 0 <ℤ coefficient (Global 0) r.term.pairs → HoldsWith v (Global 0) r n) (from_6 ∷ []) (λ lt. absurd (omega (arith, ints, lt)), tt)))

pub six : SixIsFound
six = (
  (
    record {
      variable = refl;
      fits = stage_fits (value_found []);
      nearest = record {
        allows = (allows_from_6 (value_found []) (pos 6)).1 nearest_is_6.allows;
        nearest = λ m h. nearest_is_6.nearest m ((allows_from_6 (value_found []) m).0 h);
      };
    },
    tt,
  ),
  All-from_recursion (PassesRow (value_found ((Global 0, pos 6) ∷ []))) (from_6 ∷ []) ((((record { sfits = omega arith }, record { sfits = omega arith }), record { sfits = omega arith }), omega (arith, ints)), tt),
)

-- g1 is bounded by no row, so it is 0
free : IsFoundValue [] second_of_three (Global 1, pos 0)
free = record {
  variable = refl;
  fits = All-from_recursion (λ r. coefficient (Global 1) r.term.pairs ≢ pos 0 → BoundFits (value_found []) (Global 1) r) (zero_row ∷ zero_row ∷ []) (λ n. absurd (n refl), (λ n. absurd (n refl), tt));
  nearest = record {
    allows = (All-from_recursion (λ r. coefficient (Global 1) r.term.pairs <ℤ pos 0 → HoldsWith (value_found []) (Global 1) r (pos 0)) (zero_row ∷ zero_row ∷ []) (λ lt. omega (arith, ints), (λ lt. omega (arith, ints), tt)), All-from_recursion (λ r. pos 0 <ℤ coefficient (Global 1) r.term.pairs → HoldsWith (value_found []) (Global 1) r (pos 0)) (zero_row ∷ zero_row ∷ []) (λ lt. omega (arith, ints), (λ lt. omega (arith, ints), tt)));
    nearest = λ m h. omega arith;
  };
}

abbrev with_g1 : Var → ℤ
with_g1 = value_found ((Global 1, pos 0) ∷ [])

below_holds : (n : ℤ) → HoldsWith with_g1 (Global 0) below n ↔ (n ≤ℤ pos 0)
below_holds n = (λ h. omega (arith, ints, h), λ h. omega (arith, ints, h))

over_holds : (n : ℤ) → HoldsWith with_g1 (Global 0) over n ↔ (pos 1 ≤ℤ n)
over_holds n = (λ h. omega (arith, ints, h), λ h. omega (arith, ints, h))

three_fit : StageFits with_g1 (Global 0) three
three_fit =
    All-from_recursion (λ r. coefficient (Global 0) r.term.pairs ≢ pos 0 → BoundFits with_g1 (Global 0) r) three (λ _. fits_above with_g1 (Global 0) below (pos 0) ((record { sfits = omega arith }, record { sfits = omega arith }), record { sfits = omega arith }) (record { sfits = omega arith }) below_holds, (λ _. fits_below with_g1 (Global 0) over (pos 1) ((record { sfits = omega arith }, record { sfits = omega arith }), record { sfits = omega arith }) (record { sfits = omega arith }) over_holds, (λ n. absurd (n refl), tt)))

three_lower : IsLower with_g1 (Global 0) three (pos 1)
three_lower n =
    let part = λ (r : Row). coefficient (Global 0) r.term.pairs <ℤ pos 0 → HoldsWith with_g1 (Global 0) r n in
    (λ h. (over_holds n).0 (All-head part over (zero_row ∷ []) (All-tail part below (over ∷ zero_row ∷ []) h) (omega (arith, ints))), λ h. All-from_recursion part three (λ lt. absurd (omega (arith, ints, lt)), (λ lt. (over_holds n).1 h, (λ lt. absurd (omega (arith, ints, lt)), tt))))

three_upper : IsUpper with_g1 (Global 0) three (pos 0)
three_upper n =
    let part = λ (r : Row). pos 0 <ℤ coefficient (Global 0) r.term.pairs → HoldsWith with_g1 (Global 0) r n in
    (λ h. (below_holds n).0 (All-head part below (over ∷ zero_row ∷ []) h (omega (arith, ints))), λ h. All-from_recursion part three (λ lt. (below_holds n).1 h, (λ lt. absurd (omega (arith, ints, lt)), (λ lt. absurd (omega (arith, ints, lt)), tt))))

pub apart : NoneIsBetween
apart = record {
  before = [];
  here = first_of_three;
  after = second_of_three ∷ [];
  is = refl;
  later = (Global 1, pos 0) ∷ [];
  found = (free, tt);
  stops = record {
    variable = refl;
    fits = three_fit;
    is_lower = three_lower;
    is_upper = three_upper;
    apart = omega (arith, ints);
  };
}

pub missed : SecondIsMissed
missed = (
  [],
  tt,
  record {
    before = zero_row ∷ [];
    here = one_row;
    after = [];
    is = refl;
    number_is = refl;
    passed = All-from_recursion (PassesRow (value_found [])) (zero_row ∷ []) ((record { sfits = omega arith }, omega (arith, ints)), tt);
    stops = (record { sfits = omega arith }, omega (arith, ints));
  },
)
