-- When a triple shows that a set is refuted, and when none does.
use Rattle.std.proofs.Common.{◌≡◌, ◌<◌, ℕ, pos, List, [], ◌∷◌, ◌++◌, map, length, refl, sym, ap, ap₂, ◌∙◌, subst, All, arith, ◌≤ℤ◌}
use Rattle.std.proofs.lemmas.Int.{ints}
use Rattle.std.proofs.lemmas.List.Elements.{All-contains, All-head, All-tail, All-map, All-weaker}
use Rattle.ps_atom.specs.declared.atom.Atom.{Atom}
use Rattle.ps_atom.specs.declared.predicate.Predicate.{Predicate}
use Rattle.ps_command.specs.declared.setting.Setting.{Setting}
use Rattle.ps_elim.specs.Elimination.{HasNoRefutation, IsElimination, IsLeastRefutation, last_set}
use Rattle.ps_elim.specs.Vectors.{constant_under}
use Rattle.ps_elim.specs.declared.answer.Elim.TheVariants.{Refuted, Stages, Past128, TooWide}
use Rattle.ps_elim.proofs.Determined.{elimination_once}
use Rattle.ps_farkas.specs.Refutes.{AllSumsFit, Refutes}
use Rattle.ps_saturate.specs.Asked.{asked_post}
use Rattle.ps_saturate.specs.declared.choice.Choice.{Choice}
use Rattle.ps_saturate.specs.declared.question.Question.{Question}
use Rattle.ps_saturate.specs.declared.trial.Trial.{Trial}
use Rattle.ps_saturate.specs.inner.Trials.{GivesNothing, IsChoice, IsChoiceOf, IsReady, IsRefutedIn, ShowsSet, atoms_of, rows_of}
use Rattle.ps_term.specs.Negation.{NegationFits}
use Rattle.ps_term.specs.Substitution.{SubstitutionFits}
use Rattle.ps_term.specs.declared.row.Row.{Row}
use Rattle.ps_triple.specs.Rows.{atom_row, form_in, negated, row_after, triple_rows}
use Rattle.ps_triple.specs.Tests.{HasThreadsOnce, IsAtomOf, IsThere, IsTiedTo}
use Rattle.ps_triple.specs.declared.triple.Triple.{Triple}

-- ---- eliminations

refuted_or_not : (rows : List Row) (v : List ℕ) → IsLeastRefutation rows v → HasNoRefutation rows → ⊥
refuted_or_not rows v h none =
    let most : constant_under rows v ≤ℤ pos 0 = All-contains (λ u. constant_under rows u ≤ℤ pos 0) (last_set rows) v none h.is_last in
    let least : pos 1 ≤ℤ constant_under rows v = h.positive in
    omega (arith, ints)

-- rows with another answer aren't refuted
pub stages_refute_nothing : (rows : List Row) (stages : List Rattle.ps_elim.specs.declared.stage.Stage.Stage) (v : List ℕ) → IsElimination rows (Stages stages) → ¬ IsElimination rows (Refuted v)
stages_refute_nothing rows stages v h k = refuted_or_not rows v k.1 h.unrefuted

pub past_refutes_nothing : (rows : List Row) (stage : ℕ) (v : List ℕ) → IsElimination rows (Past128 stage) → ¬ IsElimination rows (Refuted v)
past_refutes_nothing rows stage v h k = (let e : Past128 stage ≡ Refuted v = elimination_once rows (Refuted v) (Past128 stage) k h tt tt in let f : ⊥ = cc in f)

pub wide_refutes_nothing : (rows : List Row) (stage count : ℕ) (v : List ℕ) → IsElimination rows (TooWide stage count) → ¬ IsElimination rows (Refuted v)
wide_refutes_nothing rows stage count v h k = (let e : TooWide stage count ≡ Refuted v = elimination_once rows (Refuted v) (TooWide stage count) k h tt tt in let f : ⊥ = cc in f)

-- rows are refuted by one list of multipliers
pub refuted_once : (rows : List Row) (u v : List ℕ) → IsElimination rows (Refuted u) → IsElimination rows (Refuted v) → u ≡ v
refuted_once rows u v h k = (let e : Refuted u ≡ Refuted v = elimination_once rows (Refuted v) (Refuted u) k h tt tt in let f : u ≡ v = cc in f)

-- ---- the rows of a set

pub rows_are : (setting : Setting) (predicates : List Predicate) (post : Atom) (cs : List Choice) → All (IsChoice setting predicates post) cs → rows_of cs ≡ map (atom_row predicates) (atoms_of cs)
rows_are setting predicates post [] h = refl
rows_are setting predicates post (c ∷ cs) h =
    ap₂ (λ (r : Row) (rs : List Row). r ∷ rs) (All-head (IsChoice setting predicates post) c cs h).row_is (rows_are setting predicates post cs (All-tail (IsChoice setting predicates post) c cs h))

-- the rows of a triple by its parts
abbrev pub rows_with : Setting → List Predicate → List Atom → ℕ → Atom → List Row
rows_with setting predicates pre command post =
    map (atom_row predicates) pre ++ ((form_in setting command).rows ++ row_after (form_in setting command) (negated (atom_row predicates post)) ∷ [])

pub triple_rows_are : (setting : Setting) (predicates : List Predicate) (t : Triple) (pre : List Atom) (command : ℕ) (post : Atom) → t.pre ≡ pre → t.command ≡ command → t.post ≡ post
    → triple_rows setting predicates t ≡ rows_with setting predicates pre command post
triple_rows_are setting predicates t pre command post e f g =
    ap (λ (qs : List Atom). rows_with setting predicates qs t.command t.post) e
    ∙ (ap (λ (n : ℕ). rows_with setting predicates pre n t.post) f ∙ ap (λ (q : Atom). rows_with setting predicates pre command q) g)

pub trial_rows : (trial : Trial) (cs : List Choice) (rows : List Row) → IsReady trial → All (IsChoiceOf trial) cs → rows ≡ rows_of cs ++ trial.rows.items
    → rows ≡ rows_with trial.setting.now trial.predicates.now (atoms_of cs) trial.question.command trial.post
trial_rows trial cs rows ready choices e =
    e ∙ ap₂ (λ (a b : List Row). a ++ b) (rows_are trial.setting.now trial.predicates.now trial.post cs choices) ready.rows_are

-- ---- a set that is refuted

pub shown : (trial : Trial) (cs : List Choice) (rows : List Row) (t : Triple) → IsReady trial → All (IsChoiceOf trial) cs → rows ≡ rows_of cs ++ trial.rows.items
    → t.pre ≡ atoms_of cs → t.command ≡ trial.question.command → t.post ≡ trial.post
    → IsElimination rows (Refuted t.lambda) → Refutes rows t.lambda → AllSumsFit rows t.lambda → ShowsSet trial (atoms_of cs) t
shown trial cs rows t ready choices rows_is pre command post eliminated refutes fits = record {
  before = pre;
  runs = command;
  after = post;
  eliminated = subst (λ (rs : List Row). IsElimination rs (Refuted t.lambda)) same eliminated;
  holds = record {
    names = (
      subst (λ (n : ℕ). n < length trial.setting.now.commands) (sym command) ready.command,
      subst (λ (qs : List Atom). All (IsAtomOf trial.setting.now trial.predicates.now) qs) (sym pre) (All-map (IsAtomOf trial.setting.now trial.predicates.now) (λ (c : Choice). c.atom) cs (All-weaker (IsChoiceOf trial) (λ c. IsAtomOf trial.setting.now trial.predicates.now c.atom) (λ c h. h.named) cs choices)),
      subst (λ (q : Atom). IsAtomOf trial.setting.now trial.predicates.now q) (sym post) ready.named,
    );
    distinct = (
      subst (λ (qs : List Atom). All HasThreadsOnce qs) (sym pre) (All-map HasThreadsOnce (λ (c : Choice). c.atom) cs (All-weaker (IsChoiceOf trial) (λ c. HasThreadsOnce c.atom) (λ c h. h.once) cs choices)),
      subst (λ (q : Atom). HasThreadsOnce q) (sym post) ready.once,
    );
    tied = subst (λ (q : Atom). All (IsTiedTo q.threads) t.pre) (sym post) (subst (λ (qs : List Atom). All (IsTiedTo trial.post.threads) qs) (sym pre) (All-map (IsTiedTo trial.post.threads) (λ (c : Choice). c.atom) cs (All-weaker (IsChoiceOf trial) (λ c. IsTiedTo trial.post.threads c.atom) (λ c h. h.tied) cs choices)));
    fits = (
      (
        subst (λ (q : Atom). NegationFits (atom_row trial.predicates.now q)) (sym post) ready.negation,
        subst (λ (q : Atom). SubstitutionFits (form_in trial.setting.now t.command).after (negated (atom_row trial.predicates.now q)).term) (sym post)
            (subst (λ (n : ℕ). SubstitutionFits (form_in trial.setting.now n).after (negated (atom_row trial.predicates.now trial.post)).term) (sym command) ready.substitution),
      ),
      subst (λ (rs : List Row). AllSumsFit rs t.lambda) same fits,
    );
    refutes = subst (λ (rs : List Row). Refutes rs t.lambda) same refutes;
  };
}
  where
    same : rows ≡ triple_rows trial.setting.now trial.predicates.now t
    same = trial_rows trial cs rows ready choices rows_is ∙ sym (triple_rows_are trial.setting.now trial.predicates.now t (atoms_of cs) trial.question.command trial.post pre command post)

-- a set whose rows no multipliers refute within 128 bits
pub not_shown : (trial : Trial) (cs : List Choice) (rows : List Row) → IsReady trial → All (IsChoiceOf trial) cs → rows ≡ rows_of cs ++ trial.rows.items
    → ((lambda : List ℕ) → IsElimination rows (Refuted lambda) → ¬ AllSumsFit rows lambda) → ¬ IsRefutedIn trial (atoms_of cs)
not_shown trial cs rows ready choices rows_is none h =
    let t = h.0 in
    let same : rows ≡ triple_rows trial.setting.now trial.predicates.now t =
    trial_rows trial cs rows ready choices rows_is ∙ sym (triple_rows_are trial.setting.now trial.predicates.now t (atoms_of cs) trial.question.command trial.post h.1.before h.1.runs h.1.after) in
    none t.lambda (subst (λ (rs : List Row). IsElimination rs (Refuted t.lambda)) (sym same) h.1.eliminated) (subst (λ (rs : List Row). AllSumsFit rs t.lambda) (sym same) h.1.holds.fits.1)

-- ---- questions of which no set is refuted

pub nothing_known : (setting : Setting) (predicates : List Predicate) (question : Question) (width : ℕ) → question.now ≡ 0 → GivesNothing setting predicates question width
nothing_known setting predicates question width none set asks h = (let some : 0 < question.now = asks.now.some in absurd (omega arith))

pub post_not_there : (setting : Setting) (predicates : List Predicate) (question : Question) (width : ℕ) → (¬ IsThere setting predicates question.post) → GivesNothing setting predicates question width
post_not_there setting predicates question width lacks set asks h =
    lacks (subst (λ (q : Atom). IsThere setting predicates q.predicate) h.1.after h.1.holds.names.2.0)

pub post_does_not_fit : (setting : Setting) (predicates : List Predicate) (question : Question) (width : ℕ)
    → (¬ (NegationFits (atom_row predicates (asked_post predicates question)) × SubstitutionFits (form_in setting question.command).after (negated (atom_row predicates (asked_post predicates question))).term))
    → GivesNothing setting predicates question width
post_does_not_fit setting predicates question width past set asks h =
    let fits = h.1.holds.fits.0 in
    past (
      subst (λ (q : Atom). NegationFits (atom_row predicates q)) h.1.after fits.0,
      subst (λ (n : ℕ). SubstitutionFits (form_in setting n).after (negated (atom_row predicates (asked_post predicates question))).term) h.1.runs
          (subst (λ (q : Atom). SubstitutionFits (form_in setting h.0.command).after (negated (atom_row predicates q)).term) h.1.after fits.1),
    )
