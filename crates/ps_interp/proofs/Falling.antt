-- The triples from false to false of letters, from the last to the first.
use Rattle.std.proofs.Common.{◌≡◌, refl, sym, ap, ◌∙◌, subst, ℕ, ◌+◌, ◌-◌, ◌<◌, ◌≤◌, List, [], ◌∷◌, ◌++◌, length, map, drop, reverse, get_or, arith}
use mathlib.Core.List.{reverse-cons}
use Rattle.ps_command.specs.declared.setting.Setting.{Setting}
use Rattle.ps_interp.specs.Entries.{false_triple}
use Rattle.ps_interp.specs.Firsts.{AreFirst}
use Rattle.ps_interp.specs.declared.weights.WeighedLetter.{WeighedLetter}
use Rattle.ps_interp.specs.inner.Meetings.{IsListed}
use Rattle.ps_triple.specs.declared.entry.Entry.{Entry}
use Rattle.ps_interp.proofs.Adding.{cut}
use Rattle.ps_interp.proofs.Firsts.{first_append}

abbrev pub falses : Setting → List WeighedLetter → List Entry
falses setting letters = map (λ (w : WeighedLetter). false_triple setting w.command) (reverse letters)

mapped_more : (setting : Setting) (xs : List WeighedLetter) (x : WeighedLetter) →
    map (λ (w : WeighedLetter). false_triple setting w.command) (xs ++ x ∷ []) ≡ map (λ (w : WeighedLetter). false_triple setting w.command) xs ++ false_triple setting x.command ∷ []
mapped_more setting [] x = refl
mapped_more setting (y ∷ ys) x = ap (λ (es : List Entry). false_triple setting y.command ∷ es) (mapped_more setting ys x)

pub falses_more : (setting : Setting) (letters : List WeighedLetter) (left : ℕ) (x : WeighedLetter) (old new : List Entry) (entry : Entry) → 0 < left → left ≤ length letters → x ≡ get_or letters (left - 1) x →
    entry ≡ false_triple setting x.command → AreFirst [] (falses setting (drop left letters)) old → IsListed old entry new → AreFirst [] (falses setting (drop (left - 1) letters)) new
falses_more setting letters left x old new entry some within e is first listed =
    subst (λ (es : List Entry). AreFirst [] es new) (sym here)
    (subst (λ (es : List Entry). AreFirst [] (falses setting (drop left letters) ++ false_triple setting x.command ∷ []) es) (sym listed.all)
    (first_append [] (falses setting (drop left letters)) old (false_triple setting x.command ∷ []) listed.more first
    (subst (λ (f : Entry). AreFirst old (f ∷ []) listed.more) is listed.first)))
  where
    here : falses setting (drop (left - 1) letters) ≡ falses setting (drop left letters) ++ false_triple setting x.command ∷ []
    here =
        ap (falses setting) (cut letters (left - 1) x (omega (arith, some, within)) e ∙ ap (λ (n : ℕ). x ∷ drop n letters) (let s : left - 1 + 1 ≡ left = omega (arith, some) in s))
        ∙ (ap (map (λ (w : WeighedLetter). false_triple setting w.command)) (reverse-cons x (drop left letters)) ∙ mapped_more setting (reverse (drop left letters)) x)
