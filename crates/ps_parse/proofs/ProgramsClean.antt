-- Programs are the texts of the grammar no word of which has a cause of a refusal.
use Rattle.std.proofs.Common.{◌≡◌, ◌-◌, ◌≤◌, false, List, [], ◌∷◌, map, refl, sym, ◌∙◌, arith}
use Rattle.std.specs.List.{AllByRecursion}
use Rattle.std.proofs.lemmas.List.{append-nil}
use Rattle.std.proofs.lemmas.List.Elements.{recursion_from_All}
use Rattle.ps_token.specs.declared.token_kind.TokenKind.TheVariants as kind
use Rattle.ps_tree.specs.declared.program.Program.{Program}
use Rattle.ps_grammar.specs.Declarations.{most_levels, names_of, nothing_declared}
use Rattle.ps_grammar.specs.Fits.{RestFits, ProgramFits}
use Rattle.ps_grammar.specs.Grammar.{ProgramText}
use Rattle.ps_grammar.specs.Programs.{IsProgramText}
use Rattle.ps_grammar.specs.Spelling.{Mark, pieces, rest_pieces, program_pieces}
use Rattle.ps_grammar.specs.Trees.{with_items, program_tree}
use Rattle.ps_grammar.specs.Words.{Word}
use Rattle.ps_parse.specs.declared.level.Level.TheVariants as level
use Rattle.ps_parse.specs.Causes.{HasNoCause}
use Rattle.ps_parse.specs.Reads.{HasInitSigns, IsText}
use Rattle.ps_parse.proofs.NamesDeclared.{knows_none}
use Rattle.ps_parse.proofs.OpenLevels.{outside}
use Rattle.ps_parse.proofs.ProgramGuards.{items_signs}
use Rattle.ps_parse.proofs.WordsClean.{StaysClean, none_stays, stays_none, Walk, walk_then, Free}
use Rattle.ps_parse.proofs.SumsClean.{walk_mark}
use Rattle.ps_parse.proofs.StmtsClean.{walk_brace, rest_walk}
use Rattle.ps_parse.proofs.ItemsClean.{AskedOf, items_walk, items_fit, items_asked}

-- what is asked of a program
abbrev Asked : ProgramText → Type 0
Asked p = AskedOf nothing_declared p.items × ((1 ≤ most_levels) × RestFits (names_of (with_items nothing_declared p.items)) (most_levels - 1) false p.body)

program_walk : (words : List Word) (p : ProgramText) → AllByRecursion HasInitSigns p.items → pieces words ≡ program_pieces p → Walk (Asked p) (Free (names_of (with_items nothing_declared p.items)) false []) [] words []
program_walk words p signs e =
    walk_then (items_walk nothing_declared p.items [] words (Mark kind.Thread ∷ (Mark kind.OpenBrace ∷ rest_pieces p.body)) signs (record { rows = refl; globals = refl; locals = refl }) e start) (λ past left items f.
    walk_mark kind.Thread (record { causes = refl; joins = refl; atomic = refl; level = λ after ls. refl }) items f.here (λ there more body g.
    walk_brace most_levels [] false refl body g.here (λ inner ahead opened fewer h.
    rest_walk (most_levels - 1) level.Block [] false p.body [] fewer refl outside (opened ∙ sym (append-nil (rest_pieces p.body))) h)))
  where
    start : Free (names_of nothing_declared) false [] []
    start = record { here = record { declaration = refl; atomic = refl; level = refl; known = knows_none }; factor = refl }

-- after the last word
none_left : (back left : List Word) → pieces left ≡ [] → StaysClean back left
none_left back [] e = tt
none_left back (w ∷ left) e = absurd cc

pub text_fits : (words : List Word) (t : IsText words) → HasNoCause words → ProgramFits t.text
text_fits words t none =
    let signs : AllByRecursion HasInitSigns t.text.items = recursion_from_All HasInitSigns t.text.items t.signs in
    let asked : Asked t.text = ((program_walk words t.text signs t.spelled).fits (none_stays [] words none)).0 in
    record { items = items_fit nothing_declared t.text.items signs (omega arith) asked.0; body = asked.1.1 }

-- A text of the grammar in which no word has a cause of a refusal is a program.
pub program_of_text : (words : List Word) → IsText words → HasNoCause words → (p : Program) × IsProgramText words p
program_of_text words t none = (program_tree t.text (map (λ (w : Word). w.place) words), record { text = t.text; spelled = t.spelled; fits = text_fits words t none; tree = refl })

-- No word of a program has a cause of a refusal.
pub program_of_clean : (words : List Word) (p : Program) → IsProgramText words p → HasNoCause words
program_of_clean words p is =
    let signs : AllByRecursion HasInitSigns is.text.items = items_signs nothing_declared is.text.items is.fits.items in
    let w : Walk (Asked is.text) (Free (names_of (with_items nothing_declared is.text.items)) false []) [] words [] = program_walk words is.text signs is.spelled in
    stays_none words (w.clean (items_asked nothing_declared is.text.items is.fits.items, (omega arith, is.fits.body)) (none_left w.past w.left w.spelled))
