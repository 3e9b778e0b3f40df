use Rattle.std.proofs.Common.{◌≡◌, ◌∙◌, ℕ, ◌≤◌, List, Result, ap, arith, length, rules, subst, sym, take}
use Rattle.ps_token.specs.declared.place.Place.{Place}
use Rattle.ps_tree.specs.declared.program.Program.{Program}
use Rattle.ps_grammar.specs.Words.{Word, words_of}
use Rattle.ps_parse.specs.Inner.Decided.{parsed}
use Rattle.ps_parse.specs.Inner.Items.{program_at, program_in}
use Rattle.ps_parse.specs.Inner.Passed.{Finds}
use Rattle.ps_parse.specs.Inner.Reading.{WordsAhead}
use Rattle.ps_parse.specs.Promises.{ReadsWhole}
use Rattle.ps_parse.specs.Texts.{end_of}
use Rattle.ps_parse.specs.declared.read_refusal.ReadRefusal.{ReadRefusal}
use Rattle.ps_parse.proofs.Answered.{decides, front_length, parsed_few, parsed_if, words_count}
use Rattle.ps_parse.proofs.Spots.{words_ascend}
use Rattle.ps_parse.proofs.reading.program_of.Goals as goal

pub parsed-count-requires : goal.parsed-count-requires
parsed-count-requires c =
    let words : List Word = words_of c.args.bytes.now c.args.list.now in
    let end : Place = end_of c.args.bytes.now in
    let at : ◌≡◌ {A = WordsAhead} c.new-cursor.result (record { words = words; end = end }) = search rules in
    parsed_if c.args.bytes.now c.args.list.now c.in_ok-spot.spot (subst (λ (a : WordsAhead). Finds a.words a.end c.in_ok-spot.spot) (c.fork.ensures ∙ at) c.in_ok-spot.ensures)

pub overflow_cast-count : goal.overflow_cast-count
overflow_cast-count c =
    let words : List Word = words_of c.args.bytes.now c.args.list.now in
    let end : Place = end_of c.args.bytes.now in
    let at : ◌≡◌ {A = WordsAhead} c.new-cursor.result (record { words = words; end = end }) = search rules in
    let few : parsed c.in_ok-spot.spot (length c.args.list.now) ≤ length c.args.list.now = parsed_few c.args.bytes.now c.args.list.now c.in_ok-spot.spot (subst (λ (a : WordsAhead). Finds a.words a.end c.in_ok-spot.spot) (c.fork.ensures ∙ at) c.in_ok-spot.ensures) in
    omega (arith, few, c.parsed-count.ensures, c.requires.few)

pub front-requires : goal.front-requires
front-requires c =
    let words : List Word = words_of c.args.bytes.now c.args.list.now in
    let end : Place = end_of c.args.bytes.now in
    let at : ◌≡◌ {A = WordsAhead} c.new-cursor.result (record { words = words; end = end }) = search rules in
    let few : parsed c.in_ok-spot.spot (length c.args.list.now) ≤ length c.args.list.now = parsed_few c.args.bytes.now c.args.list.now c.in_ok-spot.spot (subst (λ (a : WordsAhead). Finds a.words a.end c.in_ok-spot.spot) (c.fork.ensures ∙ at) c.in_ok-spot.ensures) in
    let all : length c.new-cursor.result.words ≡ length c.args.list.now = ap (λ (a : WordsAhead). length a.words) at ∙ words_count c.args.bytes.now c.args.list.now in
    omega (arith, few, all, c.parsed-count.ensures)

pub returns : goal.returns
returns c =
    let words : List Word = words_of c.args.bytes.now c.args.list.now in
    let end : Place = end_of c.args.bytes.now in
    let at : ◌≡◌ {A = WordsAhead} c.new-cursor.result (record { words = words; end = end }) = search rules in
    let found : Finds words end c.in_ok-spot.spot = subst (λ (a : WordsAhead). Finds a.words a.end c.in_ok-spot.spot) (c.fork.ensures ∙ at) c.in_ok-spot.ensures in
    let count : c.parsed-count.result ≡ parsed c.in_ok-spot.spot (length words) = c.parsed-count.ensures ∙ ap (parsed c.in_ok-spot.spot) (sym (words_count c.args.bytes.now c.args.list.now)) in
    let front : ◌≡◌ {A = WordsAhead} c.front.result (record { words = take c.parsed-count.result words; end = end }) = c.front.ensures ∙ ap (λ (a : WordsAhead). record { words = take c.parsed-count.result a.words; end = a.end }) at in
    let whole : program_at c.parsed-count.result c.front.result ≡ program_in (take (parsed c.in_ok-spot.spot (length words)) words) end =
    ap (λ (a : WordsAhead). program_at c.parsed-count.result a) front ∙ ap (λ (n : ℕ). program_at n (record { words = take n words; end = end })) count ∙ front_length c.args.bytes.now c.args.list.now c.in_ok-spot.spot found in
    let read : ReadsWhole (λ (p : Program). p) c.program-read.result (program_in (take (parsed c.in_ok-spot.spot (length words)) words) end) = subst (λ (r : Result Program ReadRefusal). ReadsWhole (λ (p : Program). p) c.program-read.result r) whole c.program-read.ensures in
    rw c.decided.ensures (decides words end c.in_ok-spot.spot c.program-read.result (words_ascend c.args.bytes.now c.args.list.now c.requires.cut) found read)
