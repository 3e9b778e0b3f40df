-- From what is found at the cuts of a trace to what is said of the call.
use Rattle.std.proofs.Common.{◌≡◌, refl, sym, ap, ◌∙◌, subst, ℕ, ◌+◌, ◌<◌, ◌≤◌, List, [], ◌∷◌, ◌++◌, append_assoc, length, map, drop, reverse, inl, inr, ◌⊎◌, All, arith}
use Rattle.std.specs.Prelude.{slice_get, Option, Some, None}
use Rattle.std.specs.List.{AllByRecursion, drop-map, filter_map}
use mathlib.Core.List.{reverse-cons}
use Rattle.std.proofs.lemmas.List.{append-nil}
use Rattle.ps_atom.specs.Numbers.{false_predicate}
use Rattle.ps_atom.specs.declared.predicate.Predicate.{Predicate}
use Rattle.ps_atom.specs.declared.predicates.TheConstants.Predicates.{MOST}
use Rattle.ps_command.specs.declared.setting.Setting.{Setting}
use Rattle.ps_farkas.specs.Refutes.{Refutes}
use Rattle.ps_graph.specs.declared.graph.Graph.{Graph}
use Rattle.ps_interp.specs.Cuts.{AreBounds, sum_at}
use Rattle.ps_interp.specs.Ends.{EndsInterpolation, IsMetDownTo, IsOneTooMany, IsPastAtCut, IsTooWide}
use Rattle.ps_interp.specs.Entries.{false_triple, initial_of}
use Rattle.ps_interp.specs.Firsts.{AreFirst}
use Rattle.ps_interp.specs.Interpolants.{Interpolant, IsPredicateAt, StandsAt}
use Rattle.ps_interp.specs.Made.{InterpolantFits, IsTripleAt, false_triples, letters_of}
use Rattle.ps_interp.specs.Sums.{SumFits, Weighed, row_count, weighed}
use Rattle.ps_interp.specs.Weights.{OthersFit, letter_weights}
use Rattle.ps_interp.specs.declared.interp_end.InterpEnd.{InterpEnd}
use Rattle.ps_interp.specs.declared.interp_end.InterpEnd.TheVariants.{Arity, Predicates, Past128, Memory}
use Rattle.ps_interp.specs.declared.meeting.Found.{Found}
use Rattle.ps_interp.specs.declared.weights.WeighedLetter.{WeighedLetter}
use Rattle.ps_interp.specs.inner.Meetings.{AreMet, EndsAtCut, EndsMeeting, EndsMeetings, IsFound, IsListed}
use Rattle.ps_interp.specs.inner.Parts.{Part, part_in, part_of}
use Rattle.ps_soundness.specs.Traces.{trace_of}
use Rattle.ps_trace.specs.Rows.{rows_of}
use Rattle.ps_triple.specs.Faults.{EntryHolds}
use Rattle.ps_triple.specs.Fits.{EntryFits}
use Rattle.ps_triple.specs.declared.entry.Entry.{Entry}
use Rattle.ps_interp.proofs.Descending.{Joins, triple_at}
use Rattle.ps_interp.proofs.Entire.{initial_at_holds, kept_first, triple_at_holds}
use Rattle.ps_interp.proofs.Firsts.{first_append}
use Rattle.ps_interp.proofs.Growing.{stands_longer}
use Rattle.ps_interp.proofs.Letters.{IsLetter, letter_at}
use Rattle.ps_interp.proofs.Slots.{nothing_stands}

module _ (graph : Graph) (letters : List (ℕ × ℕ)) (lambda : List ℕ)
    (edges : AllByRecursion (λ (l : ℕ × ℕ). l.1 < length graph.edges) letters) (refutes : Refutes (rows_of graph letters) lambda)
    (known : List Predicate) (first : slice_get known 0 ≡ Some false_predicate) where
  abbrev trace : List (ℕ × ℕ)
  trace = trace_of graph.edges letters

  abbrev cut_letters : List Weighed
  cut_letters = letters_of graph.setting (trace_of graph.edges letters) lambda

  joined : (i : ℕ) (w : Weighed) → slice_get cut_letters i ≡ Some w → Joins cut_letters i w
  joined i w e = at (letter_at graph.setting trace (letter_weights graph.setting trace lambda) i w e)
    where
      at : IsLetter graph.setting trace cut_letters i w → Joins cut_letters i w
      at l = record { before = l.before; after = l.after }

  module _ (sums_fit : All (SumFits graph.setting) (letters_of graph.setting (trace_of graph.edges letters) lambda)) (low high : ℕ)
      (bounds : AreBounds (letters_of graph.setting (trace_of graph.edges letters) lambda) low high) (within : high ≤ length (letters_of graph.setting (trace_of graph.edges letters) lambda)) where
    down_to : (end : InterpEnd) (e : EndsAtCut graph.setting cut_letters known low high end) → IsMetDownTo graph.setting known trace lambda e.cut e.new
    down_to end e = record {
      sums_fit = sums_fit;
      low = low;
      high = high;
      bounds = bounds;
      above = e.above;
      below = e.below;
      triples = e.triples;
      made = e.made;
    }

    past_at_cut : (e : EndsAtCut graph.setting cut_letters known low high Past128) → IsPastAtCut graph.setting known trace lambda
    past_at_cut e = record { cut = e.cut; new = e.new; met = down_to Past128 e; past = at e.ends }
      where
        at : EndsMeeting graph.setting cut_letters e.cut e.after (known ++ e.new) Past128 → (¬ InterpolantFits (sum_at cut_letters e.cut))
            ⊎ ((predicate : Option Predicate) × (more : List Predicate) × (entry : Entry)
            × IsPredicateAt (sum_at cut_letters e.cut) predicate
            × AreFirst (known ++ e.new) (filter_map (λ p. p) (predicate ∷ [])) more
            × (length (known ++ (e.new ++ more)) ≤ MOST)
            × IsTripleAt cut_letters (known ++ (e.new ++ more)) e.cut entry
            × (¬ EntryFits graph.setting (known ++ (e.new ++ more)) entry))
        at (inl past) = inl past
        at (inr u) = inr (
          u.taken.predicate,
          u.taken.more,
          u.entry,
          u.taken.is,
          u.taken.first,
          subst (λ (ps : List Predicate). length ps ≤ MOST) list_is u.room,
          this_triple,
          λ fits. u.fails (subst (λ (ps : List Predicate). EntryHolds graph.setting ps u.entry) (sym list_is)
              (triple_at_holds graph letters lambda edges refutes list (kept_first known (e.new ++ u.taken.more) false_predicate first) e.cut u.entry this_triple (bounds.least e.cut e.below) fits)),
        )
          where
            list : List Predicate
            list = known ++ (e.new ++ u.taken.more)

            list_is : u.new ≡ list
            list_is = u.taken.all ∙ append_assoc known e.new u.taken.more

            this_triple : IsTripleAt cut_letters list e.cut u.entry
            this_triple = triple_at cut_letters joined list e.cut u.q e.after u.entry (omega (arith, e.below, within))
                (subst (λ (ps : List Predicate). StandsAt ps (sum_at cut_letters e.cut) u.q) list_is u.stands)
                (subst (λ (ps : List Predicate). StandsAt ps (sum_at cut_letters (e.cut + 1)) (Some e.after)) (append_assoc known e.new u.taken.more)
                (stands_longer (known ++ e.new) u.taken.more (sum_at cut_letters (e.cut + 1)) (Some e.after) e.stands))
                u.triple

    pub ended : (end : InterpEnd) → EndsMeetings graph.setting (letters_of graph.setting (trace_of graph.edges letters) lambda) known low high end →
        EndsInterpolation graph.setting known (trace_of graph.edges letters) lambda end
    ended (Arity at count) e =
        subst (λ (n : ℕ). IsTooWide graph.setting known trace lambda n count) (sym e.ends.0)
        (record { new = e.new; met = down_to (Arity at count) e; fits = e.ends.1; arity = e.ends.2 })
    ended (Predicates at) e =
        subst (λ (n : ℕ). IsOneTooMany graph.setting known trace lambda n) (sym e.ends.0)
        (record { new = e.new; met = down_to (Predicates at) e; fits = e.ends.1; full = e.ends.2 })
    ended Past128 e = inr (inl (past_at_cut e))
    ended (Memory end) e = tt

    -- ---- all cuts are met
    low_is_first : (list : List Predicate) (q : Interpolant) → StandsAt list (sum_at cut_letters low) (Some q) → low ≡ 0
    low_is_first list q stands = elim bounds.starts [
      | inl is ↦ is
      | inr trivial ↦ absurd (nothing_stands list (sum_at cut_letters low) q trivial.1 stands)
    ]

    module _ (entries : List Entry) (falses : AreFirst [] (false_triples graph.setting (drop high (trace_of graph.edges letters))) entries)
        (found : Found) where
      pub whole_without : AreMet graph.setting (letters_of graph.setting (trace_of graph.edges letters) lambda) known entries high low found None →
          IsFound graph.setting known (trace_of graph.edges letters) lambda found
      whole_without m = record {
        new = m.new;
        table = m.table;
        made = record {
          sums_fit = sums_fit;
          low = low;
          high = high;
          bounds = bounds;
          triples = m.triples;
          made = m.made;
          initial = [];
          initial_is = inl (m.stands, refl);
          first = subst (λ (es : List Entry). AreFirst [] (false_triples graph.setting (drop high trace) ++ es) found.entries) (sym (append-nil m.triples))
              (subst (λ (es : List Entry). AreFirst [] (false_triples graph.setting (drop high trace) ++ m.triples) es) (sym m.entries)
              (first_append [] (false_triples graph.setting (drop high trace)) entries m.triples m.more falses m.first));
        };
      }

      module _ (q : Interpolant) (m : AreMet graph.setting (letters_of graph.setting (trace_of graph.edges letters) lambda) known entries high low found (Some q)) where
        stands_in_list : StandsAt (known ++ m.new) (sum_at cut_letters low) (Some q)
        stands_in_list = subst (λ (ps : List Predicate). StandsAt ps (sum_at cut_letters low) (Some q)) m.table m.stands

        abbrev start : Entry
        start = initial_of graph.setting (trace_of graph.edges letters) lambda q

        pub whole_with : (more : Found) → more.table ≡ found.table → OthersFit graph.setting (trace_of graph.edges letters) lambda q.atom.threads →
            EntryHolds graph.setting found.table (initial_of graph.setting (trace_of graph.edges letters) lambda q) →
            IsListed found.entries (initial_of graph.setting (trace_of graph.edges letters) lambda q) more.entries →
            IsFound graph.setting known (trace_of graph.edges letters) lambda more
        whole_with more same others holds listed = record {
          new = m.new;
          table = same ∙ m.table;
          made = record {
            sums_fit = sums_fit;
            low = low;
            high = high;
            bounds = bounds;
            triples = m.triples;
            made = m.made;
            initial = start ∷ [];
            initial_is = inr (q, stands_in_list, others, (subst (λ (ps : List Predicate). EntryHolds graph.setting ps start) m.table holds).fits, refl);
            first =
                subst (λ (es : List Entry). AreFirst [] (false_triples graph.setting (drop high trace) ++ (m.triples ++ start ∷ [])) es) (sym (listed.all ∙ (ap (λ (es : List Entry). es ++ listed.more) m.entries ∙ append_assoc entries m.more listed.more)))
                (first_append [] (false_triples graph.setting (drop high trace)) entries (m.triples ++ start ∷ []) (m.more ++ listed.more) falses
                (first_append entries m.triples m.more (start ∷ []) listed.more m.first
                (subst (λ (es : List Entry). AreFirst es (start ∷ []) listed.more) m.entries listed.first)));
          };
        }

        pub ended_at_start : ¬ (OthersFit graph.setting (trace_of graph.edges letters) lambda q.atom.threads × EntryHolds graph.setting found.table (initial_of graph.setting (trace_of graph.edges letters) lambda q)) →
            EndsInterpolation graph.setting known (trace_of graph.edges letters) lambda Past128
        ended_at_start past = inr (inr (record {
          sums_fit = sums_fit;
          low = low;
          high = high;
          bounds = bounds;
          new = m.new;
          triples = m.triples;
          made = m.made;
          q = q;
          stands = stands_in_list;
          past = λ fit. past (
            fit.0,
            subst (λ (ps : List Predicate). EntryHolds graph.setting ps start) (sym m.table)
                (initial_at_holds graph letters lambda edges refutes (known ++ m.new) (kept_first known m.new false_predicate first) q
                (subst (λ (n : ℕ). StandsAt (known ++ m.new) (sum_at cut_letters n) (Some q)) (low_is_first (known ++ m.new) q stands_in_list) stands_in_list) fit.1),
          );
        }))

-- ---- the letters of a trace by their commands
commands_of : (setting : Setting) (trace : List (ℕ × ℕ)) (ws : List ℕ) → map (λ (p : Part). p.command) (map part_in (weighed setting trace ws)) ≡ map (λ (l : ℕ × ℕ). l.1) trace
commands_of setting [] ws = refl
commands_of setting (l ∷ ls) ws = ap (λ (ns : List ℕ). l.1 ∷ ns) (commands_of setting ls (drop (row_count setting l) ws))

mapped_back : {X Y : Type 0} (f : X → Y) (xs : List X) → map f (reverse xs) ≡ reverse (map f xs)
mapped_back f [] = refl
mapped_back {X} {Y} f (x ∷ xs) =
    ap (map f) (reverse-cons x xs) ∙ (map_append (reverse xs) (x ∷ []) ∙ (ap (λ (ys : List Y). ys ++ f x ∷ []) (mapped_back f xs) ∙ sym (reverse-cons (f x) (map f xs))))
  where
    map_append : (ys zs : List X) → map f (ys ++ zs) ≡ map f ys ++ map f zs
    map_append [] zs = refl
    map_append (y ∷ ys) zs = ap (λ (us : List Y). f y ∷ us) (map_append ys zs)

by_command : {X : Type 0} (setting : Setting) (command : X → ℕ) (high : ℕ) (xs : List X) →
    map (λ (x : X). false_triple setting (command x)) (reverse (drop high xs)) ≡ map (false_triple setting) (reverse (drop high (map command xs)))
by_command {X} setting command high xs =
    mapped_twice (reverse (drop high xs)) ∙ ap (map (false_triple setting)) (mapped_back command (drop high xs) ∙ ap reverse (sym (drop-map command high xs)))
  where
    mapped_twice : (ys : List X) → map (λ (x : X). false_triple setting (command x)) ys ≡ map (false_triple setting) (map command ys)
    mapped_twice [] = refl
    mapped_twice (y ∷ ys) = ap (λ (es : List Entry). false_triple setting (command y) ∷ es) (mapped_twice ys)

mapped_parts : (letters : List WeighedLetter) → map (λ (l : WeighedLetter). l.command) letters ≡ map (λ (p : Part). p.command) (map part_of letters)
mapped_parts [] = refl
mapped_parts (l ∷ ls) = ap (λ (ns : List ℕ). l.command ∷ ns) (mapped_parts ls)

pub same_falses : (setting : Setting) (trace : List (ℕ × ℕ)) (ws : List ℕ) (letters : List WeighedLetter) (high : ℕ) → map part_of letters ≡ map part_in (weighed setting trace ws) →
    map (λ (l : WeighedLetter). false_triple setting l.command) (reverse (drop high letters)) ≡ false_triples setting (drop high trace)
same_falses setting trace ws letters high e =
    by_command setting (λ (l : WeighedLetter). l.command) high letters
    ∙ (ap (λ (ns : List ℕ). map (false_triple setting) (reverse (drop high ns))) (mapped_parts letters ∙ (ap (map (λ (p : Part). p.command)) e ∙ commands_of setting trace ws))
    ∙ sym (by_command setting (λ (l : ℕ × ℕ). l.1) high trace))
