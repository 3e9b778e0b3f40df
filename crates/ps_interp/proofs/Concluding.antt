-- What is found for the letters of a refuted trace is an interpolation of it, or ends the call.
use Rattle.std.proofs.Common.{◌≡◌, ◌≢◌, refl, sym, ap, ap₂, ◌∙◌, subst, ℕ, ◌+◌, ◌-◌, ◌<◌, ◌≤◌, List, [], ◌∷◌, ◌++◌, length, length-drop, map, drop, inl, All, arith}
use Rattle.std.specs.Prelude.{slice_get, Option, Some, None}
use Rattle.std.specs.List.{AllByRecursion, flat_map}
use Rattle.std.proofs.lemmas.List.Elements.{recursion_from_All}
use Rattle.ps_atom.specs.Numbers.{false_predicate}
use Rattle.ps_atom.specs.declared.predicate.Predicate.{Predicate}
use Rattle.ps_command.specs.declared.setting.Setting.{Setting}
use Rattle.ps_farkas.specs.Refutes.{Refutes}
use Rattle.ps_graph.specs.declared.graph.Graph.{Graph}
use Rattle.ps_interp.specs.Cuts.{AreBounds}
use Rattle.ps_interp.specs.Ends.{EndsInterpolation}
use Rattle.ps_interp.specs.Entries.{false_triple, initial_of}
use Rattle.ps_interp.specs.Firsts.{AreFirst}
use Rattle.ps_interp.specs.Interpolants.{Interpolant}
use Rattle.ps_interp.specs.Made.{IsInterpolation, false_triples, letters_of}
use Rattle.ps_interp.specs.Sums.{SumFits, Weighed, row_total, weighed}
use Rattle.ps_interp.specs.Weights.{OthersFit, letter_weights, thread_weights, weights_by_thread, weights_of, weights_of_others, zeros}
use Rattle.ps_interp.specs.declared.cuts.Cuts.{Cuts}
use Rattle.ps_interp.specs.declared.interp_end.InterpEnd.{InterpEnd}
use Rattle.ps_interp.specs.declared.interp_end.InterpEnd.TheVariants.{Arity, Predicates, Past128, Memory}
use Rattle.ps_interp.specs.declared.meeting.Found.{Found}
use Rattle.ps_interp.specs.declared.start.StartWeights.{StartWeights}
use Rattle.ps_interp.specs.declared.weights.WeighedLetter.{WeighedLetter}
use Rattle.ps_interp.specs.inner.Meetings.{AreCuts, AreMet, EndsMeetings, IsFound, IsListed, falses_in, letters_in}
use Rattle.ps_interp.specs.inner.Parts.{letters_by, part_in, part_of}
use Rattle.ps_interp.specs.inner.Starts.{AreOthersSmall, AreStartWeights, EndsStarting, IsSmall, IsStarted, all_weights, initial_by}
use Rattle.ps_soundness.specs.Traces.{trace_of}
use Rattle.ps_trace.specs.Rows.{rows_at_start, rows_of, threads_in_trace}
use Rattle.ps_trace.specs.Traces.{pairs_in}
use Rattle.ps_trace.specs.declared.trace.Letter.{Letter}
use Rattle.ps_triple.specs.Faults.{EntryHolds}
use Rattle.ps_triple.specs.declared.entry.Entry.{Entry}
use Rattle.ps_triple.specs.declared.entry.Entry.TheVariants.{Initial as OfInitial}
use Rattle.ps_interp.proofs.Bounding.{by_letters_long, letters_are}
use Rattle.ps_interp.proofs.Ending.{ended, ended_at_start, same_falses, whole_with, whole_without}
use Rattle.ps_interp.proofs.Entire.{holds, multipliers_long, same_threads}
use Rattle.ps_interp.proofs.Proving.{proved}
use Rattle.ps_triple.proofs.Membership.{all_of}
use Rattle.ps_basis.specs.Space.{IsProved}

pairs_all : (edges : ℕ) (ls : List Letter) → AllByRecursion (λ (l : Letter). l.edge < edges) ls → AllByRecursion (λ (l : ℕ × ℕ). l.1 < edges) (pairs_in ls)
pairs_all edges [] h = tt
pairs_all edges (l ∷ ls) h = (h.0, pairs_all edges ls h.1)

module _ (graph : Graph) (ls : List Letter) (lambda : List ℕ) (edges : All (λ (l : Letter). l.edge < length graph.edges) ls) (refutes : Refutes (rows_of graph (pairs_in ls)) lambda)
    (known : List Predicate) (first_known : slice_get known 0 ≡ Some false_predicate) where
  abbrev trace : List (ℕ × ℕ)
  trace = trace_of graph.edges (pairs_in ls)

  there : AllByRecursion (λ (l : ℕ × ℕ). l.1 < length graph.edges) (pairs_in ls)
  there = pairs_all (length graph.edges) ls (recursion_from_All (λ (l : Letter). l.edge < length graph.edges) ls edges)

  threads_same : threads_in_trace trace ≡ threads_in_trace (pairs_in ls)
  threads_same = same_threads graph.edges [] (pairs_in ls)

  module _ (start : StartWeights) (s : AreStartWeights graph.setting (threads_in_trace (pairs_in ls)) lambda start) where
    letters_weights : start.letters.now ≡ letter_weights graph.setting trace lambda
    letters_weights = s.letters ∙ ap (λ (ks : List ℕ). drop (length (rows_at_start graph.setting ks)) lambda) (sym threads_same)

    pub enough : row_total graph.setting (trace_of graph.edges (pairs_in ls)) ≤ length start.letters.now
    enough =
        let e : length lambda ≡ length (rows_at_start graph.setting (threads_in_trace trace)) + row_total graph.setting trace = multipliers_long graph (pairs_in ls) lambda there refutes in
        let f : length start.letters.now ≡ length lambda - length (rows_at_start graph.setting (threads_in_trace trace)) =
        ap length letters_weights ∙ length-drop (length (rows_at_start graph.setting (threads_in_trace trace))) lambda in
        omega (arith, e, f)

    pub past_sums : ¬ All (SumFits graph.setting) (weighed graph.setting (trace_of graph.edges (pairs_in ls)) start.letters.now) →
        EndsInterpolation graph.setting known (trace_of graph.edges (pairs_in ls)) lambda Past128
    past_sums past = inl (subst (λ (ws : List ℕ). ¬ All (SumFits graph.setting) (weighed graph.setting trace ws)) letters_weights past)

    all_same : all_weights start.threads.items ≡ thread_weights graph.setting trace lambda
    all_same = s.threads_are ∙ ap (λ (ks : List ℕ). weights_by_thread (length graph.setting.init_each) ks (drop (length graph.setting.init_once) lambda)) (sym threads_same)

    initial_same : (q : Interpolant) → initial_by graph.setting start q ≡ initial_of graph.setting trace lambda q
    initial_same q = ap₂ (λ (once : List ℕ) (ps : List (ℕ × List ℕ)). OfInitial (record {
      predicate = q.atom.predicate;
      lambda = (once ++ (flat_map (weights_of (zeros graph.setting.init_each) ps) q.atom.threads ++ weights_of_others (zeros graph.setting.init_each) ps q.atom.threads)) ++ q.divisor ∷ [];
    })) s.once all_same

    others_fit : (slots : List ℕ) → AreOthersSmall graph.setting start.threads.items slots → OthersFit graph.setting trace lambda slots
    others_fit slots h = subst (λ (ps : List (ℕ × List ℕ)). All IsSmall (weights_of_others (zeros graph.setting.init_each) ps slots)) all_same h

    others_back : (slots : List ℕ) → OthersFit graph.setting trace lambda slots → AreOthersSmall graph.setting start.threads.items slots
    others_back slots h = subst (λ (ps : List (ℕ × List ℕ)). All IsSmall (weights_of_others (zeros graph.setting.init_each) ps slots)) (sym all_same) h

    module _ (cuts : Cuts) (a : AreCuts cuts) (of_setting : cuts.setting.now ≡ graph.setting)
        (parts : map part_of cuts.letters.items ≡ map part_in (weighed graph.setting (trace_of graph.edges (pairs_in ls)) start.letters.now))
        (fits : All (SumFits graph.setting) (weighed graph.setting (trace_of graph.edges (pairs_in ls)) start.letters.now)) where
      abbrev of_trace : List Weighed
      of_trace = letters_of graph.setting (trace_of graph.edges (pairs_in ls)) lambda

      letters_same : letters_in cuts ≡ of_trace
      letters_same =
          ap (λ (t : Setting). letters_by t cuts.letters.items) of_setting
          ∙ (letters_are graph.setting trace start.letters.now cuts.letters.items parts ∙ ap (weighed graph.setting trace) letters_weights)

      all_fit : All (SumFits graph.setting) of_trace
      all_fit = subst (λ (ws : List ℕ). All (SumFits graph.setting) (weighed graph.setting trace ws)) letters_weights fits

      bounds : AreBounds of_trace cuts.low cuts.high
      bounds = subst (λ (l : List Weighed). AreBounds l cuts.low cuts.high) letters_same a.bounds

      within : cuts.high ≤ length of_trace
      within = subst (λ (l : List Weighed). cuts.high ≤ length l) letters_same (subst (λ (n : ℕ). cuts.high ≤ n) (sym (by_letters_long cuts.setting.now cuts.letters.items)) a.within)

      met_of_trace : (entries : List Entry) (table : List Predicate) (found : Found) (q : Option Interpolant) → table ≡ known →
          AreMet cuts.setting.now (letters_in cuts) table entries cuts.high cuts.low found q → AreMet graph.setting of_trace known entries cuts.high cuts.low found q
      met_of_trace entries table found q e m =
          subst (λ (ps : List Predicate). AreMet graph.setting of_trace ps entries cuts.high cuts.low found q) e
          (subst (λ (l : List Weighed). AreMet graph.setting l table entries cuts.high cuts.low found q) letters_same
          (subst (λ (t : Setting). AreMet t (letters_in cuts) table entries cuts.high cuts.low found q) of_setting m))

      falses_same : falses_in cuts ≡ false_triples graph.setting (drop cuts.high trace)
      falses_same =
          ap (λ (t : Setting). map (λ (l : WeighedLetter). false_triple t l.command) (Rattle.std.specs.Prelude.reverse (drop cuts.high cuts.letters.items))) of_setting
          ∙ same_falses graph.setting trace start.letters.now cuts.letters.items cuts.high parts

      pub cuts_end : (table : List Predicate) (end : InterpEnd) → table ≡ known → EndsMeetings cuts.setting.now (letters_in cuts) table cuts.low cuts.high end →
          EndsInterpolation graph.setting known (trace_of graph.edges (pairs_in ls)) lambda end
      cuts_end table end e h =
          ended graph (pairs_in ls) lambda there refutes known first_known all_fit cuts.low cuts.high bounds within end
          (subst (λ (ps : List Predicate). EndsMeetings graph.setting of_trace ps cuts.low cuts.high end) e
          (subst (λ (l : List Weighed). EndsMeetings graph.setting l table cuts.low cuts.high end) letters_same
          (subst (λ (t : Setting). EndsMeetings t (letters_in cuts) table cuts.low cuts.high end) of_setting h)))

      module _ (begun : Found) (table : begun.table ≡ known) (falses : AreFirst [] (falses_in cuts) begun.entries) where
        falses_first : AreFirst [] (false_triples graph.setting (drop cuts.high trace)) begun.entries
        falses_first = subst (λ (es : List Entry). AreFirst [] es begun.entries) falses_same falses

        pub found_without : (found : Found) → AreMet cuts.setting.now (letters_in cuts) begun.table begun.entries cuts.high cuts.low found None →
            IsFound graph.setting known (trace_of graph.edges (pairs_in ls)) lambda found
        found_without found m =
            whole_without graph (pairs_in ls) lambda there refutes known first_known all_fit cuts.low cuts.high bounds within begun.entries falses_first found
            (met_of_trace begun.entries begun.table found None table m)

        module _ (found : Found) (q : Interpolant) (m : AreMet cuts.setting.now (letters_in cuts) begun.table begun.entries cuts.high cuts.low found (Some q)) where
          pub found_with : (more : Found) → IsStarted graph.setting start q found more → IsFound graph.setting known (trace_of graph.edges (pairs_in ls)) lambda more
          found_with more h =
              whole_with graph (pairs_in ls) lambda there refutes known first_known all_fit cuts.low cuts.high bounds within begun.entries falses_first found q
              (met_of_trace begun.entries begun.table found (Some q) table m) more h.table (others_fit q.atom.threads h.small)
              (subst (λ (e : Entry). EntryHolds graph.setting found.table e) (initial_same q) h.holds)
              (subst (λ (e : Entry). IsListed found.entries e more.entries) (initial_same q) h.listed)

          pub start_ends : (end : InterpEnd) → EndsStarting graph.setting start q found.table end → EndsInterpolation graph.setting known (trace_of graph.edges (pairs_in ls)) lambda end
          start_ends (Arity at count) h = absurd h
          start_ends (Predicates at) h = absurd h
          start_ends Past128 h =
              ended_at_start graph (pairs_in ls) lambda there refutes known first_known all_fit cuts.low cuts.high bounds within begun.entries falses_first found q
              (met_of_trace begun.entries begun.table found (Some q) table m)
              (λ fit. h (others_back q.atom.threads fit.0, subst (λ (e : Entry). EntryHolds graph.setting found.table e) (sym (initial_same q)) fit.1))
          start_ends (Memory end) h = tt

  -- ---- the whole
  same_rest : (ps qs rs : List Predicate) → ps ++ qs ≡ ps ++ rs → qs ≡ rs
  same_rest [] qs rs e = e
  same_rest (p ∷ ps) qs rs e = same_rest ps qs rs (ap (drop 1) e)

  pub made_of : (found : Found) (predicates : List Predicate) (entries : List Entry) → IsFound graph.setting known (trace_of graph.edges (pairs_in ls)) lambda found →
      found.table ≡ known ++ predicates → entries ≡ found.entries → IsInterpolation graph.setting known (trace_of graph.edges (pairs_in ls)) lambda predicates entries
  made_of found predicates entries f table are =
      subst (λ (es : List Entry). IsInterpolation graph.setting known trace lambda predicates es) (sym are)
      (subst (λ (ps : List Predicate). IsInterpolation graph.setting known trace lambda ps found.entries) (same_rest known f.new predicates (sym f.table ∙ table)) f.made)

  pub held_of : (predicates : List Predicate) (entries : List Entry) → IsInterpolation graph.setting known (trace_of graph.edges (pairs_in ls)) lambda predicates entries →
      All (EntryHolds graph.setting (known ++ predicates)) entries
  held_of predicates entries made =
      all_of (EntryHolds graph.setting (known ++ predicates)) entries (λ e h. holds graph (pairs_in ls) lambda there refutes known predicates entries first_known made e h)

  pub proved_of : (predicates : List Predicate) (entries : List Entry) → ls ≢ [] → IsInterpolation graph.setting known (trace_of graph.edges (pairs_in ls)) lambda predicates entries →
      IsProved entries (trace_of graph.edges (pairs_in ls))
  proved_of predicates entries some made = proved graph.setting known trace lambda predicates entries made (some_trace ls some)
    where
      some_trace : (letters : List Letter) → letters ≢ [] → trace_of graph.edges (pairs_in letters) ≢ []
      some_trace [] n e = n refl
      some_trace (l ∷ letters) n e = cc
