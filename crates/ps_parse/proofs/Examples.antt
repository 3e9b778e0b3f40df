-- The worked examples that take more than computing.
use Rattle.std.proofs.Common.{◌≡◌, ◌≢◌, ℕ, ◌≤◌, true, false, List, [], ◌∷◌, length, Some, None, Err, inl, inr, refl, subst, arith}
use Rattle.std.proofs.lemmas.List.Elements.{All-cons, All-nil}
use Rattle.ps_grammar.specs.Grammar.{ProductText, RelationText, block_end, block_more, either, global, havoc, if_then, name, number_name, skip}
use Rattle.ps_grammar.specs.Words.{Word}
use Rattle.ps_parse.specs.Inner.Blocks.{block_at, kind_at, skip_at, stmt_at}
use Rattle.ps_parse.specs.Causes.{GivesRows}
use Rattle.ps_parse.specs.Examples.{CausesStand, FaultStandsAtBrace, ItemsGiveNoMore, ItemsGiveRows, TextIsRead, mark, mark_at, quadratic, unequal, unfinished, valueless, x, y, zero}
use Rattle.ps_parse.specs.Inner.Items.{item_rows, items_at, signed_number_ahead, program_at, program_in, rows_from, declared_value_ahead}
use Rattle.ps_parse.specs.Inner.Reading.{WordsAhead, after_word, words_while, next_word}
use Rattle.ps_lines.specs.Steps.{and_then}
use Rattle.ps_parse.specs.Inner.Sums.{factor_at, first_product_at, further_product_at, name_product_at, number_product_at, product_at, relation_at, sign_ahead, sum_at}
use Rattle.ps_parse.specs.Inner.Variables.{variable_at}
use Rattle.ps_parse.specs.declared.read_refusal.ReadRefusal.TheVariants.{Grammar}
use Rattle.ps_term.specs.declared.var.Var.TheVariants.{Global}
use Rattle.ps_token.specs.declared.token_kind.TokenKind.TheVariants as kind
use Rattle.ps_tree.specs.declared.relation.Sign.{Sign}
use Rattle.ps_tree.specs.declared.relation.Sign.TheVariants as sign
use Rattle.ps_parse.proofs.ProgramGuards.{program_of_grammar}
use Rattle.ps_parse.proofs.RowLaws.{rows_counted}

known : Some (Global 0) ≢ None
known e = cc

pub text_is_read : TextIsRead
text_is_read = record {
  text = record { items = global (120 ∷ []) (Some (record { negative = true; digits = 49 ∷ [] })) ∷ []; body = block_more (havoc (120 ∷ [])) (block_more (if_then either (block_more skip block_end)) block_end) };
  spelled = refl;
  fits = record {
    items = ((refl, omega arith, omega arith), tt);
    body = (known, ((omega arith, omega arith, (tt, tt)), tt));
  };
  tree = refl;
}

abbrev cut_words : List Word
cut_words = mark_at kind.Thread 1 ∷ mark_at kind.OpenBrace 2 ∷ mark_at kind.Skip 3 ∷ mark_at kind.CloseBrace 4 ∷ []

is_refused : program_in cut_words (record { line = 1; column = 5 }) ≡ Err (Grammar (record { line = 1; column = 4 }))
unfolding program_at items_at block_at stmt_at kind_at skip_at after_word next_word words_while and_then
is_refused = refl

pub fault_stands : FaultStandsAtBrace
fault_stands = program_of_grammar cut_words (record { line = 1; column = 5 }) (record { line = 1; column = 4 }) is_refused

-- ---- the rows of an item

-- a relation of two products
abbrev relation : ProductText → Sign → ProductText → RelationText
relation left s right = record { left = record { negative = false; first = left; further = [] }; sign = s; right = record { negative = false; first = right; further = [] } }

gives_one : GivesRows (mark kind.Init ∷ x ∷ mark kind.Greater ∷ zero ∷ mark kind.Star ∷ y ∷ mark kind.Star ∷ []) 1
gives_one = inr (
  record {
    first = relation (name x.text) sign.Greater (number_name zero.text y.text);
    further = [];
    front = mark kind.Init ∷ x ∷ mark kind.Greater ∷ zero ∷ mark kind.Star ∷ y ∷ [];
    rest = mark kind.Star ∷ [];
    split = refl;
    spelled = refl;
    signs = All-cons (λ (r : RelationText). r.sign ≢ sign.NotEqual) (relation (name x.text) sign.Greater (number_name zero.text y.text)) [] (λ e. cc) (All-nil (λ (r : RelationText). r.sign ≢ sign.NotEqual));
    whole = refl;
  },
  refl,
)

gives_two : GivesRows (mark kind.Init ∷ x ∷ mark kind.EqualEqual ∷ y ∷ mark kind.And ∷ x ∷ mark kind.Semicolon ∷ []) 2
gives_two = inr (
  record {
    first = relation (name x.text) sign.Equal (name y.text);
    further = [];
    front = mark kind.Init ∷ x ∷ mark kind.EqualEqual ∷ y ∷ [];
    rest = mark kind.And ∷ x ∷ mark kind.Semicolon ∷ [];
    split = refl;
    spelled = refl;
    signs = All-cons (λ (r : RelationText). r.sign ≢ sign.NotEqual) (relation (name x.text) sign.Equal (name y.text)) [] (λ e. cc) (All-nil (λ (r : RelationText). r.sign ≢ sign.NotEqual));
    whole = refl;
  },
  refl,
)

gives_value : GivesRows (mark kind.Global ∷ x ∷ mark kind.Equal ∷ mark kind.Minus ∷ zero ∷ zero ∷ []) 2
gives_value = inl (
  record {
    named = x.text;
    value = record { negative = true; digits = zero.text };
    front = mark kind.Global ∷ x ∷ mark kind.Equal ∷ mark kind.Minus ∷ zero ∷ [];
    rest = zero ∷ [];
    split = refl;
    spelled = refl;
  },
  refl,
)

pub items_give : ItemsGiveRows
items_give = (gives_one, gives_two, gives_value)

abbrev at_words : List Word → WordsAhead
at_words ws = record { words = ws; end = x.place }

abbrev rows_counted_of : List Word → ℕ
rows_counted_of ws = item_rows (length ws) (at_words ws)

are_counted : (rows_counted_of quadratic ≡ 0) × (rows_counted_of unequal ≡ 0) × (rows_counted_of unfinished ≡ 2) × (rows_counted_of valueless ≡ 0)
unfolding item_rows rows_from signed_number_ahead declared_value_ahead relation_at sign_ahead sum_at first_product_at further_product_at product_at number_product_at name_product_at factor_at variable_at next_word after_word words_while and_then
are_counted = (refl, refl, refl, refl)

no_more : (ws : List Word) (rows most : ℕ) → rows_counted_of ws ≡ most → GivesRows ws rows → rows ≤ most
no_more ws rows most e g = subst (λ (n : ℕ). rows ≤ n) e (rows_counted (length ws) (at_words ws) rows (omega arith) g)

quadratic_gives : (rows : ℕ) → GivesRows quadratic rows → rows ≤ 0
quadratic_gives rows g = no_more quadratic rows 0 are_counted.0 g

unequal_gives : (rows : ℕ) → GivesRows unequal rows → rows ≤ 0
unequal_gives rows g = no_more unequal rows 0 are_counted.1 g

unfinished_gives : (rows : ℕ) → GivesRows unfinished rows → rows ≤ 2
unfinished_gives rows g = no_more unfinished rows 2 are_counted.2 g

valueless_gives : (rows : ℕ) → GivesRows valueless rows → rows ≤ 0
valueless_gives rows g = no_more valueless rows 0 are_counted.3 g

pub items_give_no_more : ItemsGiveNoMore
items_give_no_more = (quadratic_gives, unequal_gives, unfinished_gives, valueless_gives)

pub causes_stand : CausesStand
causes_stand = ((refl, refl, λ c. omega (arith, c.1)), (refl, refl, (0, omega arith, refl)), (refl, refl), refl, (refl, (0, omega arith, refl)))
