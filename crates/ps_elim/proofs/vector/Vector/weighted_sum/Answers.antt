use Rattle.std.proofs.Common.{ℕ, List, sym, ap, ap₂, ◌∙◌, subst, subst₂}
use Rattle.std.proofs.lemmas.Result.{err_from_is_err_and}
use Rattle.ps_elim.specs.Combining.{weighted_entries}
use Rattle.ps_elim.specs.inner.Entries.{AreEntries, entries_of}
use Rattle.ps_elim.proofs.Entries.{EntriesFit, IsWeightedSum, entries_fit, same_places, sum_entries, sum_is, sum_small, terms_fit}
use Rattle.ps_elim.proofs.Pairing.{same_error}
use Rattle.ps_term.specs.declared.term.TermEnd.TheVariants.{Past128}
use Rattle.ps_elim.proofs.vector.Vector.weighted_sum.Goals as goal

pub returns-in_err-weighted_sum-clause-past : goal.returns-in_err-weighted_sum-clause-past
returns-in_err-weighted_sum-clause-past c =
    let m = c.args.weights.first in
    let n = c.args.weights.second in
    let p = c.self.inside.entries in
    let q = c.other.inside.entries in
    let places = c.self.inside.places in
    let same = same_places p q places c.other.inside.places c.args.self.now c.args.other.now c.self.view_is c.other.view_is c.requires.long in
    let beside = subst (λ (k : ℕ). AreEntries q k) same c.other.invariant in
    let end = err_from_is_err_and c.from_residual.result c.from_residual.ensures.1 in
    rw (end.1, end.2) (λ past fits. c.in_err-weighted_sum.ensures.past (same_error c.in_err-weighted_sum.field-0.0 Past128 past) (terms_fit m p n q places c.self.invariant beside (subst₂ (λ (u v : List ℕ). EntriesFit m n u v) (sym c.self.view_is) (sym (ap (λ (k : ℕ). entries_of q k) (sym same) ∙ c.other.view_is)) fits)))

pub invariant_of-result : goal.invariant_of-result
invariant_of-result c =
    let p = c.self.inside.entries in
    let q = c.other.inside.entries in
    let places = c.self.inside.places in
    let same = same_places p q places c.other.inside.places c.args.self.now c.args.other.now c.self.view_is c.other.view_is c.requires.long in
    let sum : IsWeightedSum c.args.weights.first p c.args.weights.second q c.in_ok-weighted_sum.field-0 = record { coefficients = c.in_ok-weighted_sum.ensures.coefficients; constant = c.in_ok-weighted_sum.ensures.constant } in
    sum_entries c.args.weights.first p c.args.weights.second q c.in_ok-weighted_sum.field-0 places c.self.invariant (subst (λ (k : ℕ). AreEntries q k) same c.other.invariant) sum

pub returns-clause-entries : goal.returns-clause-entries
returns-clause-entries c =
    let m = c.args.weights.first in
    let n = c.args.weights.second in
    let p = c.self.inside.entries in
    let q = c.other.inside.entries in
    let places = c.self.inside.places in
    let same = same_places p q places c.other.inside.places c.args.self.now c.args.other.now c.self.view_is c.other.view_is c.requires.long in
    let sum : IsWeightedSum m p n q c.in_ok-weighted_sum.field-0 = record { coefficients = c.in_ok-weighted_sum.ensures.coefficients; constant = c.in_ok-weighted_sum.ensures.constant } in
    sum_is m p n q c.in_ok-weighted_sum.field-0 places c.self.invariant (subst (λ (k : ℕ). AreEntries q k) same c.other.invariant) sum ∙ ap₂ (λ (u v : List ℕ). weighted_entries m u n v) c.self.view_is (ap (λ (k : ℕ). entries_of q k) (sym same) ∙ c.other.view_is)

pub returns-clause-small : goal.returns-clause-small
returns-clause-small c =
    let m = c.args.weights.first in
    let n = c.args.weights.second in
    let p = c.self.inside.entries in
    let q = c.other.inside.entries in
    let places = c.self.inside.places in
    let same = same_places p q places c.other.inside.places c.args.self.now c.args.other.now c.self.view_is c.other.view_is c.requires.long in
    let sum : IsWeightedSum m p n q c.in_ok-weighted_sum.field-0 = record { coefficients = c.in_ok-weighted_sum.ensures.coefficients; constant = c.in_ok-weighted_sum.ensures.constant } in
    let made = sum_entries m p n q c.in_ok-weighted_sum.field-0 places c.self.invariant (subst (λ (k : ℕ). AreEntries q k) same c.other.invariant) sum in
    sum_small m p n q c.in_ok-weighted_sum.field-0 places made sum c.in_ok-weighted_sum.ensures.fits

pub returns-clause-fits : goal.returns-clause-fits
returns-clause-fits c =
    let m = c.args.weights.first in
    let n = c.args.weights.second in
    let p = c.self.inside.entries in
    let q = c.other.inside.entries in
    let places = c.self.inside.places in
    let same = same_places p q places c.other.inside.places c.args.self.now c.args.other.now c.self.view_is c.other.view_is c.requires.long in
    subst₂ (λ (u v : List ℕ). EntriesFit m n u v) c.self.view_is (ap (λ (k : ℕ). entries_of q k) (sym same) ∙ c.other.view_is) (entries_fit m p n q places c.self.invariant (subst (λ (k : ℕ). AreEntries q k) same c.other.invariant) c.in_ok-weighted_sum.ensures.fits)
