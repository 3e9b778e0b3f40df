-- A text is one program with its graph, or is refused in one way.
use Rattle.std.proofs.Common.{◌≡◌, ℕ, List, [], ◌∷◌, Some, inl, inr, refl, sym, ap, ◌∙◌, subst}
use Rattle.ps_compile.specs.Checks.{Check, IsFirstExceeded, NoneIsExceeded}
use Rattle.ps_grammar.specs.Programs.{IsProgram, IsProgramText}
use Rattle.ps_grammar.specs.Words.{words_of}
use Rattle.ps_graph.specs.declared.graph.Graph.{Graph}
use Rattle.ps_parse.proofs.OneAnswer.{one_program}
use Rattle.ps_parse.proofs.OneRefusal.{no_refused_program, one_refusal as one_of_words, refused_so}
use Rattle.ps_parse.specs.Refusals.{refusal_text}
use Rattle.ps_parse.specs.Texts.{GrammarIsFault, IsFirstRefusal, IsInText, RefusalIsFirst, RefusalIsInText, TokenIsBad}
use Rattle.ps_parse.specs.declared.read_refusal.ReadRefusal.{ReadRefusal}
use Rattle.ps_parse.specs.declared.read_refusal.ReadRefusal.TheVariants as refusal
use Rattle.ps_token.proofs.OneCut.{not_both, one_list, one_place}
use Rattle.ps_token.specs.declared.place.Place.{Place}
use Rattle.ps_token.specs.declared.token.Token.{Token}
use Rattle.ps_tree.specs.declared.limit_name.LimitName.{LimitName}
use Rattle.ps_tree.specs.declared.program.Program.{Program}
use Rattle.ps_modes.specs.Programs.{BadByte, BadWord, PastLimit, Refuses, RefusesBy, SaysProgram, limits_of}

-- ---- limits

-- where a limit is exceeded first, some limit is exceeded
some_exceeded : (place : Place) (limit : LimitName) (cs : List Check) → IsFirstExceeded place limit cs → NoneIsExceeded cs → ⊥
some_exceeded place limit [] first none = first
some_exceeded place limit (c ∷ cs) (inl here) none = none.0 here.0
some_exceeded place limit (c ∷ cs) (inr later) none = some_exceeded place limit cs later.1 none.1

-- one limit is exceeded first
one_limit : (place other : Place) (limit next : LimitName) (cs : List Check) → IsFirstExceeded place limit cs → IsFirstExceeded other next cs
    → refusal.Limit place limit ≡ refusal.Limit other next
one_limit place other limit next [] a b = absurd a
one_limit place other limit next (c ∷ cs) (inl a) (inl b) = rw (← a.1, ← a.2, ← b.1, ← b.2) refl
one_limit place other limit next (c ∷ cs) (inl a) (inr b) = absurd (b.0 a.0)
one_limit place other limit next (c ∷ cs) (inr a) (inl b) = absurd (a.0 b.0)
one_limit place other limit next (c ∷ cs) (inr a) (inr b) = one_limit place other limit next cs a.1 b.1

-- ---- programs

pub one_read : (text : List ℕ) (p q : Program) → IsProgram text p → IsProgram text q → p ≡ q
one_read text p q a b =
    one_program (words_of text a.tokens) p q a.is
    (subst (λ (ts : List Token). IsProgramText (words_of text ts) q) (one_list text b.tokens a.tokens b.cut a.cut) b.is)

-- a text that is a program within the limits isn't refused
pub not_refused : (text : List ℕ) (p : Program) (g : Graph) (e : ReadRefusal) → SaysProgram text p g → Refuses text e → ⊥
not_refused text p g e says (BadByte place bad _) = not_both text says.read.tokens place says.read.cut bad
not_refused text p g e says (BadWord refused) = no_refused_program text p e says.read refused
not_refused text p g e says (PastLimit q is place limit first _) =
    some_exceeded place limit (limits_of p)
    (subst (λ (r : Program). IsFirstExceeded place limit (limits_of r)) (one_read text q p is says.read) first) says.within

-- a text is refused in one way
pub one_refusal : (text : List ℕ) (e f : ReadRefusal) → Refuses text e → Refuses text f → e ≡ f
one_refusal text e f (BadByte place bad is) (BadByte other worse too) =
    is ∙ ap (λ (p : Place). refusal.Token p) (one_place text place other bad worse) ∙ sym too
one_refusal text e f (BadByte place bad is) (BadWord words) = absurd (not_both text words.tokens place words.cut bad)
one_refusal text e f (BadByte place bad is) (PastLimit q says _ _ _ _) = absurd (not_both text says.tokens place says.cut bad)
one_refusal text e f (BadWord words) (BadByte place bad _) = absurd (not_both text words.tokens place words.cut bad)
one_refusal text e f (BadWord words) (BadWord others) = one_of_words text e f words others
one_refusal text e f (BadWord words) (PastLimit q says _ _ _ _) = absurd (no_refused_program text q e says words)
one_refusal text e f (PastLimit q says _ _ _ _) (BadByte place bad _) = absurd (not_both text says.tokens place says.cut bad)
one_refusal text e f (PastLimit q says _ _ _ _) (BadWord words) = absurd (no_refused_program text q f says words)
one_refusal text e f (PastLimit p says place limit first is) (PastLimit q too other next second same) =
    is ∙ one_limit place other limit next (limits_of q)
    (subst (λ (r : Program). IsFirstExceeded place limit (limits_of r)) (one_read text p q says too) first) second ∙ sym same

some_is : (x y : List ℕ) → Some x ≡ Some y → x ≡ y
some_is x y is = cc

-- one line refuses it
pub one_line : (text x y : List ℕ) → RefusesBy text x → RefusesBy text y → x ≡ y
one_line text x y a b =
    some_is x y (sym a.2 ∙ ap refusal_text (one_refusal text a.0 b.0 a.1 b.1) ∙ b.2)

-- ---- what the reader answered

words_refused : (text line : List ℕ) (e : ReadRefusal) → IsFirstRefusal text e → IsInText text e → GrammarIsFault text e → refusal_text e ≡ Some line → RefusesBy text line
words_refused text line e first in_text grammar is = (e, BadWord (refused_so text e first in_text grammar), is)

-- a refusal with a line refuses the text by it
pub read_refused : (text line : List ℕ) (e : ReadRefusal) → TokenIsBad text e → RefusalIsFirst text e → RefusalIsInText text e → GrammarIsFault text e
    → refusal_text e ≡ Some line → RefusesBy text line
read_refused text line (refusal.Token place) bad first in_text grammar is = (refusal.Token place, BadByte place bad refl, is)
read_refused text line (refusal.Grammar place) bad first in_text grammar is = words_refused text line (refusal.Grammar place) first in_text grammar is
read_refused text line (refusal.UnknownName place) bad first in_text grammar is = words_refused text line (refusal.UnknownName place) first in_text grammar is
read_refused text line (refusal.Twice place) bad first in_text grammar is = words_refused text line (refusal.Twice place) first in_text grammar is
read_refused text line (refusal.NotLinear place) bad first in_text grammar is = words_refused text line (refusal.NotLinear place) first in_text grammar is
read_refused text line (refusal.LoopInAtomic place) bad first in_text grammar is = words_refused text line (refusal.LoopInAtomic place) first in_text grammar is
read_refused text line (refusal.Limit place l) bad first in_text grammar is = words_refused text line (refusal.Limit place l) first in_text grammar is
read_refused text line (refusal.Memory e) bad first in_text grammar is = absurd (cc)
