-- What a text is read as, from what its words are.
use Rattle.std.proofs.Common.{ℕ, List, [], ◌∷◌, Result, Ok, Err, IfOk, IfErr, ap, subst}
use Rattle.ps_token.specs.declared.place.Place.{Place}
use Rattle.ps_token.specs.declared.token.Token.{Token}
use Rattle.ps_token.specs.declared.token_end.TokenEnd.{TokenEnd}
use Rattle.ps_token.specs.declared.token_end.TokenEnd.TheVariants as token
use Rattle.ps_token.specs.Lexing.{AreTokens, IsBadAt, IsBadText}
use Rattle.ps_token.proofs.OneCut.{one_list, not_both, one_place}
use Rattle.ps_tree.specs.declared.program.Program.{Program}
use Rattle.ps_parse.specs.declared.read_refusal.ReadRefusal.{ReadRefusal}
use Rattle.ps_parse.specs.declared.read_refusal.ReadRefusal.TheVariants as refusal
use Rattle.ps_parse.specs.Causes.{AreRefused, HasCauseOf}
use Rattle.ps_parse.specs.Promises.{ReadsWhole}
use Rattle.ps_grammar.specs.Words.{Word, words_of}
use Rattle.ps_parse.specs.Inner.Decided.{AreAnswered}
use Rattle.ps_grammar.specs.Programs.{IsProgram, IsProgramText}
use Rattle.ps_parse.specs.Texts.{TokenIsBad, GrammarIsFault, RefusalIsInText, RefusalIsFirst, end_of, uncut}
use Rattle.ps_parse.proofs.OneAnswer.{one_program}
use Rattle.ps_parse.proofs.OneRefusal.{no_program_refused}

-- ---- of a text that has tokens

pub cut_found : (bytes : List ℕ) (ts : List Token) (result : Result Program ReadRefusal) → AreTokens bytes ts → AreAnswered (words_of bytes ts) (end_of bytes) result → IfOk result (IsProgram bytes)
cut_found bytes ts (Ok p) cut is = record { tokens = ts; cut = cut; is = is }
cut_found bytes ts (Err e) cut is = tt

-- words that are a program are read as it
only_program : (words : List Word) (end : Place) (result : Result Program ReadRefusal) (p : Program) → AreAnswered words end result → IsProgramText words p → ReadsWhole (λ (p : Program). p) result (Ok p)
only_program words end (Ok q) p a is = ap (λ (r : Program). Ok r) (one_program words p q is a)
only_program words end (Err (refusal.Memory e)) p a is = tt
only_program words end (Err e) p a is = absurd (no_program_refused words end p e is a)

pub cut_only : (bytes : List ℕ) (ts : List Token) (result : Result Program ReadRefusal) (p : Program) → AreTokens bytes ts → AreAnswered (words_of bytes ts) (end_of bytes) result → IsProgram bytes p → ReadsWhole (λ (p : Program). p) result (Ok p)
cut_only bytes ts result p cut a is =
    only_program (words_of bytes ts) (end_of bytes) result p a (subst (λ (us : List Token). IsProgramText (words_of bytes us) p) (one_list bytes is.tokens ts is.cut cut) is.is)

pub cut_not_bad : (bytes : List ℕ) (ts : List Token) (place : Place) → AreTokens bytes ts → IsBadAt bytes place → ⊥
cut_not_bad bytes ts place cut bad = not_both bytes ts place cut bad

-- ---- of a text that has none

pub uncut_exact : (bytes : List ℕ) (end : TokenEnd) (ts : List Token) (answer : Result Program ReadRefusal) → IsBadText bytes end → AreTokens bytes ts → ReadsWhole (λ (p : Program). p) (Err (uncut end)) answer
uncut_exact bytes (token.BadToken place) ts answer is cut = absurd (not_both bytes ts place cut is)
uncut_exact bytes (token.Memory e) ts answer is cut = tt

pub uncut_bad : (bytes : List ℕ) (end : TokenEnd) (place : Place) → IsBadText bytes end → IsBadAt bytes place → ReadsWhole {A = Program} (λ (p : Program). p) (Err (uncut end)) (Err (refusal.Token place))
uncut_bad bytes (token.BadToken other) place is bad = ap (λ (q : Place). Err (refusal.Token q)) (one_place bytes place other bad is)
uncut_bad bytes (token.Memory e) place is bad = tt

-- ---- which refusal is that of a bad byte

pub uncut_token : (bytes : List ℕ) (end : TokenEnd) → IsBadText bytes end → TokenIsBad bytes (uncut end)
uncut_token bytes (token.BadToken place) is = is
uncut_token bytes (token.Memory e) is = tt

-- no word has a cause of that refusal
no_token : (words : List Word) (end place : Place) → AreRefused words end (refusal.Token place) → ⊥
no_token words end place a = none a.first.back a.first.ahead a.first.cause
  where
    none : (back ahead : List Word) → HasCauseOf back ahead (refusal.Token place) → ⊥
    none back [] c = c
    none back (w ∷ ahead) c = c

pub cut_token : (bytes : List ℕ) (ts : List Token) (result : Result Program ReadRefusal) → AreAnswered (words_of bytes ts) (end_of bytes) result → IfErr result (TokenIsBad bytes)
cut_token bytes ts (Ok p) a = tt
cut_token bytes ts (Err (refusal.Token place)) a = absurd (no_token (words_of bytes ts) (end_of bytes) place a)
cut_token bytes ts (Err e) a = tt

-- ---- where a fault of the grammar stands

pub uncut_grammar : (bytes : List ℕ) (end : TokenEnd) → GrammarIsFault bytes (uncut end)
uncut_grammar bytes (token.BadToken place) = tt
uncut_grammar bytes (token.Memory e) = tt

pub cut_grammar : (bytes : List ℕ) (ts : List Token) (result : Result Program ReadRefusal) → AreTokens bytes ts → AreAnswered (words_of bytes ts) (end_of bytes) result → IfErr result (GrammarIsFault bytes)
cut_grammar bytes ts (Ok p) cut a = tt
cut_grammar bytes ts (Err (refusal.Grammar place)) cut a = record { tokens = ts; cut = cut; is = a.fault }
cut_grammar bytes ts (Err e) cut a = tt

-- ---- where any refusal of the words stands

pub uncut_in_text : (bytes : List ℕ) (end : TokenEnd) → RefusalIsInText bytes (uncut end)
uncut_in_text bytes (token.BadToken place) = tt
uncut_in_text bytes (token.Memory e) = tt

pub cut_in_text : (bytes : List ℕ) (ts : List Token) (result : Result Program ReadRefusal) → AreTokens bytes ts → AreAnswered (words_of bytes ts) (end_of bytes) result → IfErr result (RefusalIsInText bytes)
cut_in_text bytes ts (Ok p) cut a = tt
cut_in_text bytes ts (Err (refusal.Token place)) cut a = tt
cut_in_text bytes ts (Err (refusal.Memory e)) cut a = tt
cut_in_text bytes ts (Err e) cut a = record { tokens = ts; cut = cut; is = a.in_text }

-- ---- the first word that has a cause of a refusal

pub uncut_first : (bytes : List ℕ) (end : TokenEnd) → RefusalIsFirst bytes (uncut end)
uncut_first bytes (token.BadToken place) = tt
uncut_first bytes (token.Memory e) = tt

pub cut_first : (bytes : List ℕ) (ts : List Token) (result : Result Program ReadRefusal) → AreTokens bytes ts → AreAnswered (words_of bytes ts) (end_of bytes) result → IfErr result (RefusalIsFirst bytes)
cut_first bytes ts (Ok p) cut a = tt
cut_first bytes ts (Err (refusal.Token place)) cut a = tt
cut_first bytes ts (Err (refusal.Memory e)) cut a = tt
cut_first bytes ts (Err e) cut a = record { tokens = ts; cut = cut; is = a.first }
