-- Where a trace has an interpolation, the call doesn't end for another reason than want of memory; and it ends for one such reason.
use Rattle.std.proofs.Common.{◌≡◌, ◌≢◌, refl, sym, ap, ◌∙◌, subst, ℕ, zero, suc, ◌+◌, ◌-◌, ◌<◌, ◌≤◌, ◌^◌, min, ℤ, List, [], ◌∷◌, ◌++◌, append_assoc, length, length-append, Contains, inl, inr, ◌⊎◌, All, arith}
use Rattle.std.specs.Prelude.{Option, Some, None}
use Rattle.std.specs.List.{AllZip, filter_map}
use Rattle.std.proofs.lemmas.Bool.{cases_lt}
use Rattle.std.proofs.lemmas.List.{append-nil}
use Rattle.std.proofs.lemmas.List.Elements.{All-contains, filter_map-append}
use Rattle.ps_atom.specs.Places.{IsArityOf, IsEndOf}
use Rattle.ps_atom.specs.Threads.{AreOccurring, Occurs}
use Rattle.ps_atom.specs.declared.place.PlaceEnd.TheVariants.{Full}
use Rattle.ps_atom.specs.declared.predicate.Predicate.{Predicate}
use Rattle.ps_atom.specs.declared.predicates.TheConstants.Predicates.{MOST}
use Rattle.ps_atom.proofs.Chains.{all-contains, rising_from_increasing}
use Rattle.ps_atom.proofs.MetThreads.{IsRising}
use Rattle.ps_atom.proofs.Placing.{occurs_tight}
use Rattle.ps_command.specs.declared.setting.Setting.{Setting}
use Rattle.ps_config.proofs.Once.{IsOnce, no_longer}
use Rattle.ps_interp.specs.Cuts.{AreBounds, cuts_down, sum_at}
use Rattle.ps_interp.specs.Ends.{EndsInterpolation, IsMemory, IsMetDownTo, IsPastAtStart}
use Rattle.ps_interp.specs.Entries.{initial_of}
use Rattle.ps_interp.specs.Firsts.{AreFirst}
use Rattle.ps_interp.specs.Interpolants.{Interpolant, IsPredicateAt, StandsAt, interpolant_row}
use Rattle.ps_interp.specs.Made.{AreMade, InterpolantFits, IsInitialOf, IsInterpolation, IsTripleAt, letters_of}
use Rattle.ps_interp.specs.Sums.{SumFits, Weighed}
use Rattle.ps_interp.specs.Weights.{OthersFit}
use Rattle.ps_interp.specs.declared.interp_end.InterpEnd.{InterpEnd}
use Rattle.ps_interp.specs.declared.interp_end.InterpEnd.TheVariants.{Arity, Predicates, Past128, Memory}
use Rattle.ps_list.proofs.Members.{here}
use Rattle.ps_list.proofs.Numbers.{same_ascending}
use Rattle.ps_term.specs.Exact.{with_pairs}
use Rattle.ps_term.specs.declared.term.Term.{Term}
use Rattle.ps_term.specs.declared.var.Var.{Var}
use Rattle.ps_triple.specs.Fits.{EntryFits}
use Rattle.ps_triple.specs.declared.entry.Entry.{Entry}
use Rattle.ps_interp.proofs.Descending.{one_cut}
use Rattle.ps_interp.proofs.Firsts.{FirstParts, first_parts, same_first}
use Rattle.ps_interp.proofs.Growing.{fits_shorter, triple_longer, triple_named}
use Rattle.ps_interp.proofs.Proving.{among_cuts, zip_find}
use Rattle.ps_interp.proofs.Single.{same_high, same_interpolant, same_low, same_predicate, same_triple_at}
use Rattle.ps_interp.proofs.Slots.{nothing_stands}
use Rattle.ps_interp.proofs.Zipped.{LastZipped, last_zipped, same_zip}

-- ---- how many threads occur
once_rising : (xs : List ℕ) → IsRising xs → IsOnce xs
once_rising [] h = tt
once_rising (x ∷ xs) h = ((λ c. let no : x < x = all-contains (λ (y : ℕ). x < y) xs x h.0 c in let none : ⊥ = omega (arith, no) in none), once_rising xs h.1)

-- where the interpolant has a predicate or is trivial, no more threads occur in it than there may be slots
not_wide : (sum : Term) (p : Option Predicate) (count : ℕ) → IsPredicateAt sum p → IsArityOf (interpolant_row sum) count → ⊥
not_wide sum None count h a = at a.2.0 a.2.2 (let e : length a.2.0 ≡ a.0 = a.2.3 in let w : 4 < a.0 = a.1 in let some : 0 < length a.2.0 = omega (arith, e, w) in some)
  where
    bare : (interpolant_row sum).term.pairs ≡ []
    bare = ap (λ (ps : List (Var × ℤ)). with_pairs [] (Rattle.std.proofs.Common.negsuc 0) ps) h.0

    at : (ts : List ℕ) → AreOccurring (interpolant_row sum).term.pairs ts → 0 < length ts → ⊥
    at [] o w = let none : ⊥ = omega (arith, w) in none
    at (t ∷ ts) o w = none (subst (λ (ps : List (Var × ℤ)). Occurs ps t) bare ((o t).0 (here t ts)))
      where
        none : Occurs [] t → ⊥
        none (n, k) = k refl
not_wide sum (Some p) count h a =
    let fewer : length a.2.0 ≤ length h.0 = no_longer a.2.0 h.0 (once_rising a.2.0 (rising_from_increasing a.2.0 a.2.1))
    (λ t c. (h.1.2.in_slots.in_order.occurring t).1 ((occurs_tight (interpolant_row sum) h.1.2.tight t h.1.2.tightened).0 ((a.2.2 t).0 c))) in
    let few : length h.0 ≤ 4 = h.1.1 in
    let e : length a.2.0 ≡ a.0 = a.2.3 in
    let w : 4 < a.0 = a.1 in
    let none : ⊥ = omega (arith, fewer, few, e, w) in none

same_count : (sum : Term) (m n : ℕ) → IsArityOf (interpolant_row sum) m → IsArityOf (interpolant_row sum) n → m ≡ n
same_count sum m n h k = h.3 ∙ (ap (λ (c : ℕ). min c (2 ^ 32 - 1)) counts ∙ sym k.3)
  where
    counts : h.0 ≡ k.0
    counts = sym h.2.3 ∙ (ap (λ (ts : List ℕ). length ts) (same_ascending h.2.0 k.2.0 h.2.1 k.2.1 (λ t c. (k.2.2 t).1 ((h.2.2 t).0 c)) (λ t c. (h.2.2 t).1 ((k.2.2 t).0 c))) ∙ k.2.3)

-- ---- the predicates of the cuts down to one
record AreTaken (letters : List Weighed) (known : List Predicate) (high cut : ℕ) (new : List Predicate) : Type 0 where
  pub predicates : List (Option Predicate)
  pub each : AllZip (λ i p. IsPredicateAt (sum_at letters i) p) (cuts_down cut high) predicates
  pub first : AreFirst known (filter_map (λ p. p) predicates) new

-- from the last ones to those of one cut more
record TakesOne (letters : List Weighed) (known : List Predicate) (high cut : ℕ) (new : List Predicate) : Type 0 where
  pub older : List Predicate
  pub taken : AreTaken letters known high (cut + 1) older
  pub predicate : Option Predicate
  pub is : IsPredicateAt (sum_at letters cut) predicate
  pub more : List Predicate
  pub first : AreFirst (known ++ older) (filter_map (λ p. p) (predicate ∷ [])) more
  pub all : new ≡ older ++ more

module _ (letters : List Weighed) (known : List Predicate) (high : ℕ) where
  takes_one : (cut : ℕ) (new : List Predicate) → cut < high → AreTaken letters known high cut new → TakesOne letters known high cut new
  takes_one cut new below t = record {
    older = parts.old;
    taken = record { predicates = zipped.before; each = zipped.each; first = parts.before };
    predicate = zipped.last;
    is = zipped.at_last;
    more = parts.more;
    first = parts.after;
    all = parts.all;
  }
    where
      zipped : LastZipped (λ i p. IsPredicateAt (sum_at letters i) p) (cuts_down (cut + 1) high) cut t.predicates
      zipped = last_zipped (λ i p. IsPredicateAt (sum_at letters i) p) (cuts_down (cut + 1) high) cut t.predicates
          (subst (λ (is : List ℕ). AllZip (λ i p. IsPredicateAt (sum_at letters i) p) is t.predicates) (one_cut cut high below) t.each)

      parts : FirstParts known (filter_map (λ p. p) zipped.before) (filter_map (λ p. p) (zipped.last ∷ [])) new
      parts = first_parts known (filter_map (λ p. p) zipped.before) (filter_map (λ p. p) (zipped.last ∷ [])) new
          (subst (λ (ps : List Predicate). AreFirst known ps new) (filter_map-append (λ p. p) zipped.before (zipped.last ∷ []))
          (subst (λ (ps : List (Option Predicate)). AreFirst known (filter_map (λ p. p) ps) new) zipped.all t.first))

  same_taken : (cut : ℕ) (new more : List Predicate) → AreTaken letters known high cut new → AreTaken letters known high cut more → new ≡ more
  same_taken cut new more t u = same_first known (filter_map (λ p. p) t.predicates) new more t.first
      (subst (λ (ps : List (Option Predicate)). AreFirst known (filter_map (λ p. p) ps) more)
      (same_zip (λ i p. IsPredicateAt (sum_at letters i) p) (λ i p q. same_predicate (sum_at letters i) p q) (cuts_down cut high) u.predicates t.predicates u.each t.each) u.first)

  -- those of the cuts down to a higher one come first
  taken_above : (steps cut at : ℕ) (new : List Predicate) → at ≡ cut + steps → at ≤ high → AreTaken letters known high cut new →
      (older : List Predicate) × (rest : List Predicate) × AreTaken letters known high at older × (new ≡ older ++ rest)
  taken_above zero cut at new e within t =
      (new, [], subst (λ (n : ℕ). AreTaken letters known high n new) (let is : cut ≡ at = omega (arith, e) in is) t, sym (append-nil new))
  taken_above (suc steps) cut at new e within t =
      let one : TakesOne letters known high cut new = takes_one cut new (omega (arith, e, within)) t in
      let above = taken_above steps (cut + 1) at one.older (omega (arith, e)) within one.taken in
      (above.0, above.1 ++ one.more, above.2, one.all ∙ (ap (λ (ps : List Predicate). ps ++ one.more) above.3 ∙ append_assoc above.0 above.1 one.more))

-- ---- a cut that is met
record IsMetAt (setting : Setting) (letters : List Weighed) (known older : List Predicate) (cut : ℕ) : Type 0 where
  pub fits : InterpolantFits (sum_at letters cut)
  pub predicate : Option Predicate
  pub is : IsPredicateAt (sum_at letters cut) predicate
  pub more : List Predicate
  pub first : AreFirst (known ++ older) (filter_map (λ p. p) (predicate ∷ [])) more
  pub rest : List Predicate
  pub entry : Entry
  pub triple : IsTripleAt letters ((known ++ (older ++ more)) ++ rest) cut entry
  pub entry_fits : EntryFits setting ((known ++ (older ++ more)) ++ rest) entry
  pub room : length ((known ++ (older ++ more)) ++ rest) ≤ MOST

-- why one can't be met, from the predicates of those above it
abbrev EndsAt : Setting → List Weighed → List Predicate → List Predicate → ℕ → InterpEnd → Type 0
EndsAt setting letters known older cut (Arity at count) = (at ≡ cut) × InterpolantFits (sum_at letters cut) × IsArityOf (interpolant_row (sum_at letters cut)) count
EndsAt setting letters known older cut (Predicates at) = (at ≡ cut) × InterpolantFits (sum_at letters cut) × IsEndOf (known ++ older) (interpolant_row (sum_at letters cut)) Full
EndsAt setting letters known older cut Past128 = (¬ InterpolantFits (sum_at letters cut))
    ⊎ ((predicate : Option Predicate) × (more : List Predicate) × (entry : Entry)
    × IsPredicateAt (sum_at letters cut) predicate
    × AreFirst (known ++ older) (filter_map (λ p. p) (predicate ∷ [])) more
    × (length (known ++ (older ++ more)) ≤ MOST)
    × IsTripleAt letters (known ++ (older ++ more)) cut entry
    × (¬ EntryFits setting (known ++ (older ++ more)) entry))
EndsAt setting letters known older cut (Memory _) = ⊥

module _ (setting : Setting) (letters : List Weighed) (known : List Predicate) where
  met_at : (high cut at : ℕ) (new older : List Predicate) (triples : List Entry) → cut ≤ at → at < high → AreMade setting letters known high cut new triples →
      AreTaken letters known high (at + 1) older → IsMetAt setting letters known older at
  met_at high cut at new older triples low below made taken =
      subst (λ (ps : List Predicate). IsMetAt setting letters known ps at) (same_taken letters known high (at + 1) one.older older one.taken taken) (record {
        fits = made.fit at low below;
        predicate = one.predicate;
        is = one.is;
        more = one.more;
        first = one.first;
        rest = above.1;
        entry = found.0;
        triple = subst (λ (ps : List Predicate). IsTripleAt letters ps at found.0) list_is found.2;
        entry_fits = subst (λ (ps : List Predicate). EntryFits setting ps found.0) list_is (All-contains (EntryFits setting (known ++ new)) triples found.0 made.triples_fit found.1);
        room = subst (λ (ps : List Predicate). length ps ≤ MOST) list_is made.room;
      })
    where
      above : (ps : List Predicate) × (rest : List Predicate) × AreTaken letters known high at ps × (new ≡ ps ++ rest)
      above = taken_above letters known high (at - cut) cut at new (omega (arith, low)) (omega (arith, below)) (record { predicates = made.predicates; each = made.each; first = made.first })

      one : TakesOne letters known high at above.0
      one = takes_one letters known high at above.0 below above.2

      list_is : known ++ new ≡ (known ++ (one.older ++ one.more)) ++ above.1
      list_is = ap (λ (ps : List Predicate). known ++ ps) (above.3 ∙ ap (λ (ps : List Predicate). ps ++ above.1) one.all) ∙ sym (append_assoc known (one.older ++ one.more) above.1)

      found : (entry : Entry) × Contains triples entry × IsTripleAt letters (known ++ new) at entry
      found = zip_find (IsTripleAt letters (known ++ new)) (cuts_down cut high) triples at made.triples_are (among_cuts cut high at low below)

  -- a full table has no room for a new predicate
  no_room : (sum : Term) (older : List Predicate) (p : Option Predicate) (more : List Predicate) → IsPredicateAt sum p → AreFirst (known ++ older) (filter_map (λ p. p) (p ∷ [])) more →
      length (known ++ (older ++ more)) ≤ MOST → IsEndOf (known ++ older) (interpolant_row sum) Full → ⊥
  no_room sum older p more is first room f =
      at (subst (λ (q : Option Predicate). AreFirst (known ++ older) (filter_map (λ p. p) (q ∷ [])) more) (same_predicate sum p (Some f.0) is (f.1, f.2.0)) first)
    where
      at : AreFirst (known ++ older) (f.0 ∷ []) more → ⊥
      at (inl h) = f.2.1 h.0
      at (inr h) =
          let full : length (known ++ older) ≡ 128 = f.2.2 in
          let a : length (known ++ older) ≡ length known + length older = length-append known older in
          let b : length (known ++ (older ++ more)) ≡ length known + length (older ++ more) = length-append known (older ++ more) in
          let c : length (older ++ more) ≡ length older + length more = length-append older more in
          let d : length more ≡ suc (length h.1.0) = ap (λ (ps : List Predicate). length ps) h.1.1 in
          let r : length (known ++ (older ++ more)) ≤ 128 = room in
          let none : ⊥ = omega (arith, full, a, b, c, d, r) in none

  shorter : (xs ys : List Predicate) → length (xs ++ ys) ≤ MOST → length xs ≤ MOST
  shorter xs ys h = let e : length (xs ++ ys) ≡ length xs + length ys = length-append xs ys in omega (arith, e, h)

  -- a cut that is met has none of these causes
  met_not_ended : (older : List Predicate) (cut : ℕ) (end : InterpEnd) → 0 < length known → IsMetAt setting letters known older cut → EndsAt setting letters known older cut end → ⊥
  met_not_ended older cut (Arity at count) some m e = not_wide (sum_at letters cut) m.predicate count m.is e.2
  met_not_ended older cut (Predicates at) some m e =
      no_room (sum_at letters cut) older m.predicate m.more m.is m.first (shorter (known ++ (older ++ m.more)) m.rest m.room) e.2
  met_not_ended older cut Past128 some m (inl past) = past m.fits
  met_not_ended older cut Past128 some m (inr e) =
      e.7 (fits_shorter list m.rest setting e.2 (triple_named list m.rest long letters cut e.2 e.6)
      (subst (λ (x : Entry). EntryFits setting (list ++ m.rest) x) entry_is (subst (λ (ps : List Predicate). EntryFits setting ((known ++ (older ++ ps)) ++ m.rest) m.entry) more_is m.entry_fits)))
    where
      list : List Predicate
      list = known ++ (older ++ e.1)

      more_is : m.more ≡ e.1
      more_is = same_first (known ++ older) (filter_map (λ p. p) (e.0 ∷ [])) m.more e.1
          (subst (λ (q : Option Predicate). AreFirst (known ++ older) (filter_map (λ p. p) (q ∷ [])) m.more) (same_predicate (sum_at letters cut) m.predicate e.0 m.is e.3) m.first) e.4

      entry_is : m.entry ≡ e.2
      entry_is = same_triple_at letters (list ++ m.rest) cut m.entry e.2
          (subst (λ (ps : List Predicate). IsTripleAt letters ((known ++ (older ++ ps)) ++ m.rest) cut m.entry) more_is m.triple)
          (triple_longer list m.rest letters cut e.2 e.6)

      long : 0 < length (known ++ (older ++ e.1))
      long = let n : length (known ++ (older ++ e.1)) ≡ length known + length (older ++ e.1) = length-append known (older ++ e.1) in omega (arith, n, some)
  met_not_ended older cut (Memory end) some m e = e

  -- and a cut has one of them
  same_end_at : (older : List Predicate) (cut : ℕ) (one other : InterpEnd) → EndsAt setting letters known older cut one → EndsAt setting letters known older cut other → one ≡ other
  same_end_at older cut (Arity at count) (Arity too many) h k = λ i. Arity ((h.0 ∙ sym k.0) i) (same_count (sum_at letters cut) count many h.2 k.2 i)
  same_end_at older cut (Arity at count) (Predicates too) h k = absurd (not_wide (sum_at letters cut) (Some k.2.0) count (k.2.1, k.2.2.0) h.2)
  same_end_at older cut (Arity at count) Past128 h (inl past) = absurd (past h.1)
  same_end_at older cut (Arity at count) Past128 h (inr k) = absurd (not_wide (sum_at letters cut) k.0 count k.3 h.2)
  same_end_at older cut (Predicates at) (Arity too count) h k = absurd (not_wide (sum_at letters cut) (Some h.2.0) count (h.2.1, h.2.2.0) k.2)
  same_end_at older cut (Predicates at) (Predicates too) h k = λ i. Predicates ((h.0 ∙ sym k.0) i)
  same_end_at older cut (Predicates at) Past128 h (inl past) = absurd (past h.1)
  same_end_at older cut (Predicates at) Past128 h (inr k) = absurd (no_room (sum_at letters cut) older k.0 k.1 k.3 k.4 k.5 h.2)
  same_end_at older cut Past128 (Arity at count) (inl past) k = absurd (past k.1)
  same_end_at older cut Past128 (Arity at count) (inr h) k = absurd (not_wide (sum_at letters cut) h.0 count h.3 k.2)
  same_end_at older cut Past128 (Predicates at) (inl past) k = absurd (past k.1)
  same_end_at older cut Past128 (Predicates at) (inr h) k = absurd (no_room (sum_at letters cut) older h.0 h.1 h.3 h.4 h.5 k.2)
  same_end_at older cut Past128 Past128 h k = refl
  same_end_at older cut (Memory end) other h k = absurd h
  same_end_at older cut one (Memory end) h k = absurd k

-- ---- the whole call
module _ (setting : Setting) (known : List Predicate) (trace : List (ℕ × ℕ)) (lambda : List ℕ) (some : 0 < length known) where
  abbrev letters : List Weighed
  letters = letters_of setting trace lambda

  -- where the cause of an end comes up
  abbrev Cause : InterpEnd → Type 0
  Cause end =
      ((¬ All (SumFits setting) (letters_of setting trace lambda)) × (end ≡ Past128))
      ⊎ (((cut : ℕ) × (older : List Predicate) × IsMetDownTo setting known trace lambda cut older × EndsAt setting (letters_of setting trace lambda) known older cut end)
      ⊎ ((IsPastAtStart setting known trace lambda × (end ≡ Past128))
      ⊎ IsMemory end))

  cause_of : (end : InterpEnd) → EndsInterpolation setting known trace lambda end → Cause end
  cause_of (Arity cut count) e = inr (inl (cut, e.new, e.met, (refl, e.fits, e.arity)))
  cause_of (Predicates cut) e = inr (inl (cut, e.new, e.met, (refl, e.fits, e.full)))
  cause_of Past128 (inl e) = inl (e, refl)
  cause_of Past128 (inr (inl e)) = inr (inl (e.cut, e.new, e.met, e.past))
  cause_of Past128 (inr (inr e)) = inr (inr (inl (e, refl)))
  cause_of (Memory end) e = inr (inr (inr tt))

  made_not_ended : (low high down : ℕ) (new : List Predicate) (triples : List Entry) → AreBounds letters low high → AreMade setting letters known high down new triples →
      (cut : ℕ) (older : List Predicate) (end : InterpEnd) → IsMetDownTo setting known trace lambda cut older → down ≤ cut → EndsAt setting letters known older cut end → ⊥
  made_not_ended low high down new triples bounds made cut older end met above ends =
      met_not_ended setting letters known older cut end some
      (met_at setting letters known high down cut new older triples above (subst (λ (n : ℕ). cut < n) high_is met.below) made
      (subst (λ (n : ℕ). AreTaken letters known n (cut + 1) older) high_is (record { predicates = met.made.predicates; each = met.made.each; first = met.made.first }))) ends
    where
      high_is : met.high ≡ high
      high_is = same_high letters met.low met.high low high met.bounds bounds

  lowest : (low high cut : ℕ) (older : List Predicate) → AreBounds letters low high → IsMetDownTo setting known trace lambda cut older → low ≤ cut
  lowest low high cut older bounds met =
      let high_is : met.high ≡ high = same_high letters met.low met.high low high met.bounds bounds in
      let low_is : met.low ≡ low = same_low letters met.low low high (subst (λ (n : ℕ). AreBounds letters met.low n) high_is met.bounds) bounds in
      subst (λ (n : ℕ). n ≤ cut) low_is met.above

  not_at_start : (new : List Predicate) (entries : List Entry) → IsInterpolation setting known trace lambda new entries → IsPastAtStart setting known trace lambda → ⊥
  not_at_start new entries h s = at h.initial_is
    where
      high_is : s.high ≡ h.high
      high_is = same_high letters s.low s.high h.low h.high s.bounds h.bounds

      low_is : s.low ≡ h.low
      low_is = same_low letters s.low h.low h.high (subst (λ (n : ℕ). AreBounds letters s.low n) high_is s.bounds) h.bounds

      made : AreMade setting letters known h.high h.low s.new s.triples
      made = subst (λ (n : ℕ). AreMade setting letters known n h.low s.new s.triples) high_is (subst (λ (n : ℕ). AreMade setting letters known s.high n s.new s.triples) low_is s.made)

      new_is : s.new ≡ new
      new_is = same_taken letters known h.high h.low s.new new (record { predicates = made.predicates; each = made.each; first = made.first })
          (record { predicates = h.made.predicates; each = h.made.each; first = h.made.first })

      stands : StandsAt (known ++ new) (sum_at letters h.low) (Some s.q)
      stands = subst (λ (n : ℕ). StandsAt (known ++ new) (sum_at letters n) (Some s.q)) low_is (subst (λ (ps : List Predicate). StandsAt (known ++ ps) (sum_at letters s.low) (Some s.q)) new_is s.stands)

      past : ¬ (OthersFit setting trace lambda s.q.atom.threads × EntryFits setting (known ++ new) (initial_of setting trace lambda s.q))
      past = subst (λ (ps : List Predicate). ¬ (OthersFit setting trace lambda s.q.atom.threads × EntryFits setting (known ++ ps) (initial_of setting trace lambda s.q))) new_is s.past

      at : IsInitialOf setting trace lambda (known ++ new) (sum_at letters h.low) h.initial → ⊥
      at (inl trivial) = nothing_stands (known ++ new) (sum_at letters h.low) s.q trivial.0 stands
      at (inr i) = subst (λ (q : Interpolant). ¬ (OthersFit setting trace lambda q.atom.threads × EntryFits setting (known ++ new) (initial_of setting trace lambda q)))
          (same_interpolant (known ++ new) (sum_at letters h.low) s.q i.0 stands i.1) past (i.2, i.3)

  pub made_not_memory : (new : List Predicate) (entries : List Entry) (end : InterpEnd) → IsInterpolation setting known trace lambda new entries → EndsInterpolation setting known trace lambda end → IsMemory end
  made_not_memory new entries end h e = at (cause_of end e)
    where
      at : Cause end → IsMemory end
      at (inl past) = absurd (past.0 h.sums_fit)
      at (inr (inl c)) = absurd (made_not_ended h.low h.high h.low new h.triples h.bounds h.made c.0 c.1 end c.2 (lowest h.low h.high c.0 c.1 h.bounds c.2) c.3)
      at (inr (inr (inl start))) = absurd (not_at_start new entries h start.0)
      at (inr (inr (inr memory))) = memory

  -- the higher one of two causes is met where the lower one comes up
  not_above : (cut : ℕ) (older : List Predicate) (above : ℕ) (others : List Predicate) (end : InterpEnd) → IsMetDownTo setting known trace lambda cut older →
      IsMetDownTo setting known trace lambda above others → cut < above → EndsAt setting letters known others above end → ⊥
  not_above cut older above others end low met below ends =
      made_not_ended low.low low.high (cut + 1) older low.triples low.bounds low.made above others end met (omega (arith, below)) ends

  not_with_start : (s : IsPastAtStart setting known trace lambda) (cut : ℕ) (older : List Predicate) (end : InterpEnd) → IsMetDownTo setting known trace lambda cut older →
      EndsAt setting letters known older cut end → ⊥
  not_with_start s cut older end met ends =
      made_not_ended s.low s.high s.low s.new s.triples s.bounds s.made cut older end met (lowest s.low s.high cut older s.bounds met) ends

  same_cuts : (cut : ℕ) (older : List Predicate) (at : ℕ) (others : List Predicate) (one other : InterpEnd) → IsMetDownTo setting known trace lambda cut older → IsMetDownTo setting known trace lambda at others →
      EndsAt setting letters known older cut one → EndsAt setting letters known others at other → one ≡ other
  same_cuts cut older at others one other met too h k = elim (cases_lt cut at) [
    | inl lower ↦ absurd (not_above cut older at others other met too lower k)
    | inr not_lower ↦ elim (cases_lt at cut) [
      | inl higher ↦ absurd (not_above at others cut older one too met higher h)
      | inr not_higher ↦ same (omega (arith, not_lower, not_higher))
    ]
  ]
    where
      same : at ≡ cut → one ≡ other
      same is =
          let high_is : too.high ≡ met.high = same_high letters too.low too.high met.low met.high too.bounds met.bounds in
          let taken : AreTaken letters known too.high (at + 1) others = record { predicates = too.made.predicates; each = too.made.each; first = too.made.first } in
          let there : AreTaken letters known met.high (cut + 1) others = subst (λ (n : ℕ). AreTaken letters known n (cut + 1) others) high_is (subst (λ (n : ℕ). AreTaken letters known too.high (n + 1) others) is taken) in
          let list : others ≡ older = same_taken letters known met.high (cut + 1) others older there (record { predicates = met.made.predicates; each = met.made.each; first = met.made.first }) in
          same_end_at setting letters known older cut one other h
          (subst (λ (ps : List Predicate). EndsAt setting letters known ps cut other) list (subst (λ (n : ℕ). EndsAt setting letters known others n other) is k))

  pub one_end : (one other : InterpEnd) → EndsInterpolation setting known trace lambda one → EndsInterpolation setting known trace lambda other → IsMemory one ⊎ (IsMemory other ⊎ (one ≡ other))
  one_end one other e f = at (cause_of one e) (cause_of other f)
    where
      at : Cause one → Cause other → IsMemory one ⊎ (IsMemory other ⊎ (one ≡ other))
      at (inr (inr (inr memory))) d = inl memory
      at c (inr (inr (inr memory))) = inr (inl memory)
      at (inl c) (inl d) = inr (inr (c.1 ∙ sym d.1))
      at (inl c) (inr (inl d)) = absurd (c.0 d.2.sums_fit)
      at (inl c) (inr (inr (inl d))) = absurd (c.0 d.0.sums_fit)
      at (inr (inl c)) (inl d) = absurd (d.0 c.2.sums_fit)
      at (inr (inl c)) (inr (inl d)) = inr (inr (same_cuts c.0 c.1 d.0 d.1 one other c.2 d.2 c.3 d.3))
      at (inr (inl c)) (inr (inr (inl d))) = absurd (not_with_start d.0 c.0 c.1 one c.2 c.3)
      at (inr (inr (inl c))) (inl d) = absurd (d.0 c.0.sums_fit)
      at (inr (inr (inl c))) (inr (inl d)) = absurd (not_with_start c.0 d.0 d.1 other d.2 d.3)
      at (inr (inr (inl c))) (inr (inr (inl d))) = inr (inr (c.1 ∙ sym d.1))
