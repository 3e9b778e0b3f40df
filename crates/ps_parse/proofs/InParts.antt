-- The first fault of the grammar and the first word with a cause decide how words are refused: what reads the grammar need
-- know no names and count nothing, and what finds causes need know no grammar.
use Rattle.std.proofs.Common.{◌≡◌, false, List, [], ◌∷◌, ◌++◌, Some, sym, ap, subst, ◌∙◌, append_assoc}
use Rattle.ps_token.specs.declared.place.Place.{Place}
use Rattle.ps_grammar.specs.Words.{Word}
use Rattle.ps_parse.specs.Causes.{AreRefused, IsCause, IsClean, IsFaultIfSaid, words_at}
use Rattle.ps_parse.specs.Kinds.{place_of_next}
use Rattle.ps_parse.specs.Parts.{HasOwnCause, is_second_name}
use Rattle.ps_parse.specs.Reads.{BeginAlike, IsFirstGrammarFault, IsText, PassesGrammar}
use Rattle.ps_parse.specs.declared.read_refusal.ReadRefusal.{ReadRefusal}
use Rattle.ps_parse.specs.declared.read_refusal.ReadRefusal.TheVariants as refusal
use Rattle.ps_parse.proofs.WordsAllowed.{least_grammar}
use Rattle.ps_parse.proofs.Spots.{passed, passed_front}

no_fault_said : (words : List Word) (end : Place) (e : ReadRefusal) (back ahead : List Word) → IsCause back ahead e → IsFaultIfSaid words end e
no_fault_said words end e back [] c = absurd c
no_fault_said words end (refusal.Grammar p) back (w ∷ ahead) c = absurd c
no_fault_said words end e back (w ∷ ahead) c = tt

-- The first cause refuses words where those before it go on as some text of the grammar, and with its word too, unless it
-- is a second name of a product.
pub cause_refuses : (words : List Word) (end : Place) (e : ReadRefusal) (c : HasOwnCause words end e) (others : List Word)
    → IsText (words_at c.first.back others) → (PassesGrammar e → BeginAlike c.first.ahead others) → AreRefused words end e
cause_refuses words end e c others goes next = record {
  first = c.first;
  in_text = record {
    before = passed c.first.back;
    rest = c.first.ahead;
    split = c.first.split ∙ passed_front c.first.back c.first.ahead;
    place_is = c.first.place_is;
    others = others;
    goes_on = subst IsText (passed_front c.first.back others) goes;
    next = next;
  };
  fault = no_fault_said words end e c.first.back c.first.ahead c.own;
}

-- The first fault of the grammar refuses words where none before it has a cause, and it is no second name of a product.
pub fault_refuses : (words : List Word) (end p : Place) (f : IsFirstGrammarFault words end p) (back : List Word)
    → f.before ≡ words_at back [] → IsClean back f.rest → is_second_name back f.rest ≡ false → AreRefused words end (refusal.Grammar p)
fault_refuses words end p f back here clean linear = record {
  first = record {
    back = back;
    ahead = f.rest;
    split = f.split ∙ ap (λ (ws : List Word). ws ++ f.rest) here ∙ sym (passed_front back f.rest);
    place_is = ap (λ (q : Place). Some q) f.place_is;
    cause = tt;
    first_here = least_grammar back f.rest linear;
    first = clean;
  };
  in_text = record { before = f.before; rest = f.rest; split = f.split; place_is = ap (λ (q : Place). Some q) f.place_is; others = f.others; goes_on = f.goes_on; next = λ g. absurd g };
  fault = f;
}

alike_front : (w : Word) (ws rest others : List Word) → BeginAlike (w ∷ (ws ++ rest)) others → BeginAlike (w ∷ ws) others
alike_front w ws rest [] h = h
alike_front w ws rest (v ∷ vs) h = h

-- The first fault of words that others follow, where it stands at one of them, is that of all.
pub fault_of_front : (front rest : List Word) (end after p : Place) (w : Word) (ws : List Word) (f : IsFirstGrammarFault front end p)
    → f.rest ≡ w ∷ ws → IsFirstGrammarFault (front ++ rest) after p
fault_of_front front rest end after p w ws f h = record {
  before = f.before;
  rest = w ∷ (ws ++ rest);
  split = ap (λ (vs : List Word). vs ++ rest) f.split ∙ append_assoc f.before f.rest rest ∙ ap (λ (vs : List Word). f.before ++ (vs ++ rest)) h;
  place_is = f.place_is ∙ ap (λ (vs : List Word). place_of_next vs end) h;
  others = f.others;
  goes_on = f.goes_on;
  stops = λ others alike t. f.stops others (subst (λ (vs : List Word). BeginAlike vs others) (sym h) (alike_front w ws rest others alike)) t;
}
