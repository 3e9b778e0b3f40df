-- Words are one program at most, have one first fault at most, and not both; and no refusal stands after that fault, nor
-- at it but for a second name of a product.
use Rattle.std.proofs.Common.{◌≡◌, inl, inr, List, [], ◌∷◌, ◌++◌, Result, Ok, refl, sym, ap, subst, ◌∙◌, append_assoc}
use Rattle.std.proofs.lemmas.List.{append-nil, append_cancel_left}
use Rattle.std.proofs.lemmas.List.Elements.{All-from_recursion}
use Rattle.ps_token.specs.declared.place.Place.{Place}
use Rattle.ps_tree.specs.declared.program.Program.{Program}
use Rattle.ps_parse.specs.declared.read_refusal.ReadRefusal.{ReadRefusal}
use Rattle.ps_grammar.specs.Words.{Word}
use Rattle.ps_parse.specs.Kinds.{place_of_next}
use Rattle.ps_grammar.specs.Declarations.{nothing_declared}
use Rattle.ps_grammar.specs.Programs.{IsProgramText}
use Rattle.ps_parse.specs.Reads.{HasInitSigns, IsText, BeginAlike, IsFirstGrammarFault, PassesGrammar, StandsInText}
use Rattle.ps_parse.proofs.ProgramGuards.{items_signs, program_of_again}
use Rattle.ps_parse.proofs.Guards.{alike_itself}
use Rattle.ps_parse.proofs.Spots.{Longer, compare, same_front}

ok_is : (p q : Program) → ◌≡◌ {A = Result Program ReadRefusal} (Ok p) (Ok q) → p ≡ q
ok_is p q e = cc

pub one_program : (words : List Word) (p q : Program) → IsProgramText words p → IsProgramText words q → p ≡ q
one_program words p q a b =
    let end : Place = record { line = 0; column = 0 } in
    ok_is p q (sym (program_of_again words end p a) ∙ program_of_again words end q b)

-- the words before a fault don't stop before it
not_longer : (words : List Word) (end p q : Place) (f : IsFirstGrammarFault words end p) (g : IsFirstGrammarFault words end q) → Longer f.before g.before f.rest g.rest → ⊥
not_longer words end p q f g h =
    let joined : g.before ++ g.others ≡ f.before ++ (h.word ∷ (h.tail ++ g.others)) = ap (λ (ws : List Word). ws ++ g.others) h.is ∙ append_assoc f.before (h.word ∷ h.tail) g.others in
    f.stops (h.word ∷ (h.tail ++ g.others)) (subst (λ (ws : List Word). BeginAlike ws (h.word ∷ (h.tail ++ g.others))) (sym h.left) refl) (subst IsText joined g.goes_on)

pub one_fault : (words : List Word) (end p q : Place) → IsFirstGrammarFault words end p → IsFirstGrammarFault words end q → p ≡ q
one_fault words end p q f g =
    elim (compare f.before g.before f.rest g.rest (sym f.split ∙ g.split)) [
      | inl h ↦ f.place_is ∙ ap (λ (ws : List Word). place_of_next ws end) h.left ∙ sym g.place_is
      | inr h ↦ elim h [
        | inl k ↦ absurd (not_longer words end p q f g k)
        | inr k ↦ absurd (not_longer words end q p g f k)
      ]
    ]

-- A front that goes on as some text doesn't pass a fault.
pub not_after : (words : List Word) (end p : Place) (f : IsFirstGrammarFault words end p) (before rest others : List Word) → words ≡ before ++ rest → IsText (before ++ others) → (tail : List Word) × (f.before ≡ before ++ tail)
not_after words end p f before rest others split text =
    elim (compare f.before before f.rest rest (sym f.split ∙ split)) [
      | inl h ↦ ([], same_front f.before before f.rest rest (sym f.split ∙ split) h.left ∙ sym (append-nil before))
      | inr h ↦ elim h [
        | inl k ↦ absurd (f.stops (k.word ∷ (k.tail ++ others)) (subst (λ (ws : List Word). BeginAlike ws (k.word ∷ (k.tail ++ others))) (sym k.left) refl)
            (subst IsText (ap (λ (ws : List Word). ws ++ others) k.is ∙ append_assoc f.before (k.word ∷ k.tail) others) text))
        | inr k ↦ (k.word ∷ k.tail, k.is)
      ]
    ]

-- No other refusal stands after a fault of the grammar.
pub not_after_fault : (words : List Word) (end p : Place) (f : IsFirstGrammarFault words end p) (e : ReadRefusal) (s : StandsInText words end e) → (tail : List Word) × (f.before ≡ s.before ++ tail)
not_after_fault words end p f e s = not_after words end p f s.before s.rest s.others s.split s.goes_on

-- Nor does one stand at it, but for a second name of a product.
pub not_at_fault : (words : List Word) (end p : Place) (f : IsFirstGrammarFault words end p) (e : ReadRefusal) (s : StandsInText words end e) → PassesGrammar e → f.before ≡ s.before → ⊥
not_at_fault words end p f e s g same =
    let left : f.rest ≡ s.rest = append_cancel_left f.before f.rest s.rest (sym f.split ∙ s.split ∙ ap (λ (ws : List Word). ws ++ s.rest) (sym same)) in
    f.stops s.others (subst (λ (ws : List Word). BeginAlike ws s.others) (sym left) (s.next g)) (subst (λ (ws : List Word). IsText (ws ++ s.others)) (sym same) s.goes_on)

-- ---- a program is a text of the grammar

pub program_is_text : (words : List Word) (p : Program) → IsProgramText words p → IsText words
program_is_text words p h = record { text = h.text; spelled = h.spelled; signs = All-from_recursion HasInitSigns h.text.items (items_signs nothing_declared h.text.items h.fits.items) }

pub no_program : (words : List Word) (end place : Place) (p : Program) → IsFirstGrammarFault words end place → IsProgramText words p → ⊥
no_program words end place p f h = f.stops f.rest (alike_itself f.rest) (subst IsText f.split (program_is_text words p h))
