-- What the matches have for an option is a number that it takes.
use Rattle.std.proofs.Common.{◌≡◌, ◌∙◌, ◌<◌, ◌^◌, ℕ, true, false, List, [], ◌∷◌, length, Option, Some, None, Result, Ok, IfSome, refl, sym, ap, subst, inl, inr, arith, lit≤, lit<}
use Rattle.std.specs.Borrow.{Bor}
use Rattle.std.specs.List.{All, slice_index_or}
use Rattle.std.specs.Prelude.{option_map, option_and_then, slice_get, unwrap_or}
use Rattle.std.specs.Str.{bytes_eq}
use Rattle.std.specs.Str.Parse.{ParsesUnsigned}
use Rattle.std.proofs.lemmas.List.Elements.{All-get_or}
use Rattle.std.proofs.lemmas.Slice.Eq.{bytes_eq-Decides}
use Rattle.clap.proofs.CallerLemmas.{entry_by_id}
use Rattle.clap.proofs.CallerReads.{signed_reads}
use Rattle.clap.proofs.WalkLemmas.{one_text-rows}
use Rattle.clap.specs.Built.{IsParsedFrom}
use Rattle.clap.specs.Facts.{Entry, EntryPasses, PassesArg, args_of, groups_of, parser_of, parser_of_value}
use Rattle.clap.specs.Lexer.{without_minus}
use Rattle.clap.specs.Matches.{ReadsOne, found_of, matched_of, one_text}
use Rattle.clap.specs.Simple.{App}
use Rattle.clap.specs.Walk.{one_of, rows_of}
use Rattle.clap.specs.Values.{Accepts, read_as, reading_of}
use Rattle.clap.specs.declared.builder.arg.Arg.{Arg}
use Rattle.clap.specs.declared.builder.command.Command.{Command}
use Rattle.clap.specs.declared.builder.value_parser.Reading.{Reading}
use Rattle.clap.specs.declared.builder.value_parser.Reading.TheVariants.{WithoutMinus}
use Rattle.clap.specs.declared.builder.value_parser.ValueParser.{ValueParser}
use Rattle.clap.specs.declared.parser.matches.ArgMatches.{ArgMatches}
use Rattle.clap.specs.declared.parser.matches.MatchedArg.{MatchedArg}
use Rattle.ps_words.proofs.Made.{built_parses, has_name}
use Rattle.ps_words.specs.Asked.{number_in, option_number}
use Rattle.ps_words.specs.Command.{option_parser}
use Rattle.ps_words.specs.Options.{Takes, default_number, least_number, most_number, option_name}
use Rattle.ps_words.specs.declared.option_name.OptionName.{OptionName}
use Rattle.ps_words.specs.declared.option_name.OptionName.TheVariants.{Explorers, Provers, Nodes, Traces, Width, Size}
use Rattle.ps_words.specs.inner.Commands.{AreRead, IsMade, IsReadOf}
use Rattle.ps_words.specs.inner.Numbers.{IsOptionNumber}

-- ---- entries

-- an argument of the built command with the name of an option takes its numbers
abbrev Parses : Command → OptionName → Type 0
Parses built option = (j : ℕ) (x : Arg) → j < length (args_of built) → slice_index_or (args_of built) j x ≡ x
    → bytes_eq x.id.now (option_name option) ≡ true → x.value_parser ≡ Some (option_parser option)

passed : (built : Command) (option : OptionName) (id text : List ℕ) → Parses built option → id ≡ option_name option → PassesArg built id text
    → Accepts false (option_parser option) text
passed built option id text parses is pass =
    let same = parses pass.0 pass.1 pass.2 pass.3 (subst (λ (w : List ℕ). bytes_eq pass.1.id.now w ≡ true) is pass.4.0) in
    let parser : parser_of pass.1 ≡ option_parser option = ap parser_of_value same in
    subst (λ (q : ValueParser). Accepts pass.1.ignore_case q text) parser pass.4.1

-- the first value, and how it is read
first_read : (built : Command) (option : OptionName) (how : Reading) (vs : List (Bor (List ℕ))) (text : List ℕ)
    → All (λ v. Accepts false (option_parser option) v.now) vs → how ≡ WithoutMinus
    → option_map (λ s. read_as how s.now) (slice_get vs 0) ≡ Some text → IsReadOf option text
first_read built option how [] text all is first = absurd (cc)
first_read built option how (v ∷ vs) text all is first =
    let read : Some (without_minus v.now) ≡ Some text = ap (λ (r : Reading). Some (read_as r v.now)) (sym is) ∙ first in
    let same : text ≡ without_minus v.now = cc in
    (v.now, same, All-get_or (λ v. Accepts false (option_parser option) v.now) (v ∷ vs) 0 v (omega arith) all)

entry_read : (built : Command) (option : OptionName) (x : MatchedArg) (e : Entry) (text : List ℕ) → groups_of built ≡ []
    → Parses built option → e.1 ≡ x → e.0.now ≡ option_name option → EntryPasses built e
    → option_map (λ s. read_as x.reading s.now) (slice_get x.vals.items 0) ≡ Some text → IsReadOf option text
entry_read built option x e text no_groups parses is named pass first =
    let no_group : e.1.is_group ≡ true → ⊥ = λ g. elim (pass.3 g) [
      | inl empty ↦ has_name option (sym named ∙ empty)
      | inr lots ↦
          let bad : 0 < 0 = rw no_groups at lots in
          absurd (omega arith)
    ] in
    let all : All (λ v. Accepts false (option_parser option) v.now) x.vals.items = elim pass.0 [
      | inl g ↦ absurd (no_group g)
      | inr vals ↦ subst (λ (y : MatchedArg). All (λ v. Accepts false (option_parser option) v.now) y.vals.items) is
          (λ k d lt. passed built option e.0.now (slice_index_or e.1.vals.items k d).now parses named (vals k d lt))
    ] in
    let how : e.1.reading ≡ WithoutMinus = elim pass.4 [
      | inl g ↦ absurd (no_group g)
      | inr h ↦
          let same = parses h.0 h.1 h.2 h.3 (subst (λ (w : List ℕ). bytes_eq h.1.id.now w ≡ true) named h.4.0) in
          let parser : parser_of h.1 ≡ option_parser option = ap parser_of_value same in
          sym h.4.1 ∙ ap reading_of parser
    ] in
    first_read built option x.reading x.vals.items text all (ap (λ (y : MatchedArg). y.reading) (sym is) ∙ how) first

-- whatever the matches have for an option was taken by its parser
pub numbers_read : (made : Command) (app : App) (m : ArgMatches) → IsMade made app → IsParsedFrom made m → AreRead (found_of m)
numbers_read made app m is p option = some (matched_of (found_of m) (option_name option)) refl
  where
    some : (o : Option MatchedArg) → matched_of (found_of m) (option_name option) ≡ o → IfSome (one_text (found_of m) (option_name option)) (IsReadOf option)
    some None none = rw none tt
    some (Some x) found =
        let parsed = p.parsed (p.from.globals ∙ is.globals) in
        let e = entry_by_id (EntryPasses p.built) (found_of m).entries.items (option_name option) x parsed.values found in
        let named : e.0.0.now ≡ option_name option = (bytes_eq-Decides e.0.0.now (option_name option)).0 e.2 in
        first (option_map (λ s. read_as x.reading s.now) (slice_get x.vals.items 0)) refl
        (λ text is_text. entry_read p.built option x e.0 text (p.from.plain is.plain).1 (built_parses made app m p is option) e.1 named e.3 is_text)
        (ap (option_and_then (λ (a : MatchedArg). option_map (λ s. read_as a.reading s.now) (slice_get a.vals.items 0))) found)
      where
        first : (o : Option (List ℕ)) → option_map (λ s. read_as x.reading s.now) (slice_get x.vals.items 0) ≡ o
            → ((text : List ℕ) → option_map (λ s. read_as x.reading s.now) (slice_get x.vals.items 0) ≡ Some text → IsReadOf option text)
            → one_text (found_of m) (option_name option) ≡ option_map (λ s. read_as x.reading s.now) (slice_get x.vals.items 0)
            → IfSome (one_text (found_of m) (option_name option)) (IsReadOf option)
        first None none each is = rw (is ∙ none) tt
        first (Some text) some each is = rw (is ∙ some) (each text some)

-- ---- numbers

default_taken : (option : OptionName) → Takes option (default_number option)
default_taken Explorers = (lit≤ tt, lit≤ tt)
default_taken Provers = (lit≤ tt, lit≤ tt)
default_taken Nodes = (lit≤ tt, lit≤ tt)
default_taken Traces = (lit≤ tt, lit≤ tt)
default_taken Width = (lit≤ tt, lit≤ tt)
default_taken Size = (lit≤ tt, lit≤ tt)

small : (option : OptionName) → most_number option < 2 ^ 32
small Explorers = lit< tt
small Provers = lit< tt
small Nodes = lit< tt
small Traces = lit< tt
small Width = lit< tt
small Size = lit< tt

-- what `get_one` answers, or else the default
pub number_answered : (E : Type 0) (G : List ℕ → Result ℕ E → Type 0) (option : OptionName) (m : ArgMatches) (r : Option ℕ) (n : ℕ)
    → ((u : List ℕ) (x : Result ℕ E) → G u x → ParsesUnsigned 32 10 u x)
    → AreRead (found_of m) → (one_text (found_of m) (option_name option) ≡ None → r ≡ None)
    → ((t : List ℕ) → one_text (found_of m) (option_name option) ≡ Some t → ReadsOne G t r)
    → n ≡ unwrap_or r (default_number option) → IsOptionNumber option m n
number_answered E G option m r n only read none some is =
    go (one_text (found_of m) (option_name option)) refl (one_text-rows (found_of m) (option_name option))
  where
    answered : (t : List ℕ) (o : Option ℕ) → ReadsOne G t o → (k : ℕ) → o ≡ Some k → k ≡ number_in t
    answered t (Some v) h k e = let parsed = only t (Ok v) h in let same : k ≡ v = cc in same ∙ parsed.1
    answered t None h k e = absurd (cc)

    go : (o : Option (List ℕ)) → one_text (found_of m) (option_name option) ≡ o
        → one_text (found_of m) (option_name option) ≡ one_of (option_name option) (rows_of (found_of m)) → IsOptionNumber option m n
    go None e rows =
        let counts : option_number option (rows_of (found_of m)) ≡ default_number option =
        ap (λ (o : Option (List ℕ)). unwrap_or (option_map number_in o) (default_number option)) (sym rows ∙ e) in
        let default : n ≡ default_number option = is ∙ ap (λ (o : Option ℕ). unwrap_or o (default_number option)) (none e) in record {
          matched = default ∙ sym counts;
          taken = subst (λ (k : ℕ). Takes option k) (sym default) (default_taken option);
        }
    go (Some t) e rows =
        let counts : option_number option (rows_of (found_of m)) ≡ number_in t =
        ap (λ (o : Option (List ℕ)). unwrap_or (option_map number_in o) (default_number option)) (sym rows ∙ e) in
        let text : IsReadOf option t = subst (λ (o : Option (List ℕ)). IfSome o (IsReadOf option)) e (read option) in
        let got = signed_reads E G 32 (least_number option) (most_number option) text.0 r
        (subst (λ (u : List ℕ). ReadsOne G u r) text.1 (some t e)) only (small option) text.2 in
        let number : n ≡ got.0 = is ∙ ap (λ (o : Option ℕ). unwrap_or o (default_number option)) got.1 in record {
          matched = number ∙ answered t r (some t e) got.0 got.1 ∙ sym counts;
          taken = subst (λ (k : ℕ). Takes option k) (sym number) (got.2, got.3);
        }
