use Rattle.std.proofs.Common.{◌≡◌, ℕ, [], List, ◌∙◌, map, sym, subst, ap, ap₂, rules}
use Rattle.std.specs.List.{flat_map}
use Rattle.ps_tree.specs.declared.global_decl.GlobalDecl.{GlobalDecl}
use Rattle.ps_tree.specs.declared.relation.Relation.{Relation}
use Rattle.ps_tree.specs.declared.stmt.Stmt.{Stmt}
use Rattle.ps_grammar.specs.Grammar.{local}
use Rattle.ps_grammar.specs.Names.{Names}
use Rattle.ps_print.specs.Printed.{global_item, init_item, printed_program, program_names, Puts, stmts_text}
use Rattle.ps_grammar.specs.Texts.{IsTreeOfText}
use Rattle.ps_print.specs.ReadBack.{ReadsBack}
use Rattle.ps_grammar.specs.Spelling.{block_pieces, item_pieces}
use Rattle.ps_print.proofs.BlockPieces.{whole}
use Rattle.ps_print.proofs.PrintedTokens.{reads_back}
use Rattle.ps_print.proofs.Putting.{chain, respell}
use Rattle.ps_print.proofs.RoundTrip.{round_trip}
use Rattle.ps_grammar.specs.Programs.{IsProgram}
use Rattle.ps_print.proofs.printing.print_program.Goals as goal

abbrev names_of_lists : List GlobalDecl → List (List ℕ) → Names
names_of_lists gs ls = record { globals = map (λ (g : GlobalDecl). g.name) gs; locals = ls }

pub returns : goal.returns
returns c =
    let names : c.new-printer.result ≡ program_names c.args.program.now = c.new-printer.ensures ∙ ap₂ names_of_lists c.as_slice.ensures c.as_slice-2.ensures in
    let globals = respell (ap (λ (gs : List GlobalDecl). flat_map item_pieces (map global_item gs)) (sym c.as_slice-3.ensures)) c.in_ok-put_globals.ensures in
    let locals = respell (ap (λ (ls : List (List ℕ)). flat_map item_pieces (map local ls)) (sym c.as_slice-4.ensures)) c.in_ok-put_locals.ensures in
    let inits = respell (ap₂ (λ (n : Names) (rs : List Relation). flat_map item_pieces (map (init_item n) rs)) (sym names) (sym c.as_slice-5.ensures)) c.in_ok-put_inits.ensures in
    let block = respell (ap₂ (λ (n : Names) (b : List Stmt). block_pieces (stmts_text n b)) (sym names) (sym c.as_slice-6.ensures)) c.in_ok-put_block.ensures in
    let start : Puts [] c.new-out.result.items [] = search rules in
    let text : c.put_block.new.out.items ≡ printed_program c.args.program.now = whole c.args.program.now (chain start (chain globals (chain locals (chain inits (chain c.in_ok-put_mark.ensures block))))) in
    let again : IsTreeOfText c.args.program.now → ReadsBack c.put_block.new.out.items c.args.program.now = λ (h : IsTreeOfText c.args.program.now). subst (λ (bytes : List ℕ). ReadsBack bytes c.args.program.now) (sym text) (reads_back c.args.program.now h) in
    record { text = text; again = again; same = λ (bytes : List ℕ) (h : IsProgram bytes c.args.program.now). round_trip bytes c.put_block.new.out.items c.args.program.now again h }
