-- Words ask for one thing at most.
use Rattle.std.proofs.Common.{◌≡◌, ◌∙◌, List, Some, true, refl, sym, subst}
use Rattle.std.specs.Str.{bytes_eq}
use Rattle.std.proofs.lemmas.Slice.Eq.{bytes_eq-Decides}
use Rattle.clap.specs.Walk.{Row, Text}
use Rattle.ps_words.specs.Asked.{AskFor, IsMatched}
use Rattle.ps_words.specs.Modes.{mode_name}
use Rattle.ps_words.specs.declared.mode.Mode.{Mode}
use Rattle.ps_words.specs.declared.mode.Mode.TheVariants.{Refute, Replay, Check, Member}
use Rattle.ps_words.specs.declared.words.Words.{Words}

alike : (a b : Mode) → bytes_eq (mode_name a) (mode_name b) ≡ true → a ≡ b
alike Refute Refute e = refl
alike Replay Replay e = refl
alike Check Check e = refl
alike Member Member e = refl
alike _ _ e = absurd (cc)

-- modes with one name are one mode
one_name : (a b : Mode) → mode_name a ≡ mode_name b → a ≡ b
one_name a b e = alike a b ((bytes_eq-Decides (mode_name a) (mode_name b)).1 e)

some_is : (x y : Text) → Some x ≡ Some y → x ≡ y
some_is x y e = cc

-- matches have one mode, and one number for each option
one_matched : (rows : List Row) (a b : Words) → IsMatched rows a → IsMatched rows b → a ≡ b
one_matched rows a b p q =
    let mode : a.mode ≡ b.mode = one_name a.mode b.mode (some_is (mode_name a.mode) (mode_name b.mode) (sym p.mode ∙ q.mode)) in
    let nodes : a.limits.nodes ≡ b.limits.nodes = p.nodes ∙ sym q.nodes in
    let traces : a.limits.traces ≡ b.limits.traces = p.traces ∙ sym q.traces in
    let width : a.limits.width ≡ b.limits.width = p.width ∙ sym q.width in
    let explorers : a.limits.explorers ≡ b.limits.explorers = p.explorers ∙ sym q.explorers in
    let provers : a.limits.provers ≡ b.limits.provers = p.provers ∙ sym q.provers in
    let size : a.size ≡ b.size = p.size ∙ sym q.size in
    λ i. record {
      mode = mode i;
      limits = record { nodes = nodes i; traces = traces i; width = width i; explorers = explorers i; provers = provers i };
      size = size i;
    }

pub one_asked : (words : List Text) (a b : Words) → AskFor words a → AskFor words b → a ≡ b
one_asked words a b p q = one_matched _ a b p.matched q.matched

-- what holds of the mode that the words ask for holds of each that they ask for
pub for_asked : (words : List Text) (asked : Words) (P : Mode → Type 0) → AskFor words asked → P asked.mode
    → (other : Words) → AskFor words other → P other.mode
for_asked words asked P asks holds other too = subst (λ (w : Words). P w.mode) (one_asked words asked other asks too) holds
