-- The walk of `clap` over plain words.
use Rattle.std.proofs.Common.{◌≡◌, ◌∙◌, ◌<◌, ◌^◌, ◌==◌, ◌||◌, ◌⊎◌, ◌++◌, if◌then◌else◌, ℕ, Bool, true, false, List, [], ◌∷◌, map, Option, Some, None, refl, sym, ap, subst, inl, inr, arith, codes, lit<, option_map, is_some}
use Rattle.std.specs.Fmt.{decimal}
use Rattle.std.specs.List.{find, fold}
use Rattle.std.specs.Option.{option_map_or, unwrap_or}
use Rattle.std.specs.Prelude.{◌≤ℤ◌, option_and_then, pos, slice_get}
use Rattle.std.specs.Str.{bytes_eq}
use Rattle.std.specs.Str.Parse.{IsNumeral, digits_value}
use Rattle.std.proofs.lemmas.Bool.{ne_eqb}
use Rattle.std.proofs.lemmas.Fmt.{decimal_is_IsNumeral}
use Rattle.std.proofs.lemmas.Int.{ints}
use Rattle.std.proofs.lemmas.List.{append-nil, append_assoc}
use Rattle.std.proofs.lemmas.Slice.Eq.{bytes_eq-Decides}
use Rattle.std.proofs.lemmas.Str.Parse.{digit_from_value}
use Rattle.clap.proofs.OnLiterals.{clap_on_literals}
use Rattle.clap.proofs.ValueTestLemmas.{Accepts-accepts}
use Rattle.clap.specs.Facts.{explicit_source}
use Rattle.clap.specs.Faults.{check_fault, default_fault, defaults_fault, entered_fault, fault_of, given_default_fault, level_fault, settle_fault, turn_fault, walk_fault}
use Rattle.clap.specs.Kinds.{or_else}
use Rattle.clap.specs.Lexer.{without_minus}
use Rattle.clap.specs.Simple.{Shape, built, entered, matches_of}
use Rattle.clap.specs.Takes.{is_given as is_given_in}
use Rattle.clap.specs.Values.{IsSignedIn}
use Rattle.clap.specs.ValueTests.{accepts}
use Rattle.clap.specs.Walk.{Row, Rule, Text, Walk, at_row, default_rows, finished, first_of, has_row, idle, is_empty, more_values, nothing_held, reading_by, row_text, settled, settled_rows, walk, walk_from, walked, with_default, with_values, without}
use Rattle.clap.specs.declared.builder.value_parser.Reading.{Reading}
use Rattle.clap.specs.declared.builder.value_parser.Reading.TheVariants.{AsWritten, WithoutMinus}
use Rattle.clap.specs.declared.parser.matches.ValueSource.{ValueSource}
use Rattle.clap.specs.declared.parser.matches.ValueSource.TheVariants.{CommandLine, DefaultValue}
use Rattle.ps_words.specs.Asked.{AskFor, number_in, option_number}
use Rattle.ps_words.specs.Command.{command, option_parser}
use Rattle.ps_words.specs.Modes.{mode_name}
use Rattle.ps_words.specs.Options.{Takes, default_number, default_text, least_number, most_number, option_name}
use Rattle.ps_words.specs.Plain.{AreTaken, Given, is_given, number_given, option_words, plain_words, same_option, words_given}
use Rattle.ps_words.specs.declared.mode.Mode.{Mode}
use Rattle.ps_words.specs.declared.mode.Mode.TheVariants.{Refute, Replay, Check, Member}
use Rattle.ps_words.specs.declared.option_name.OptionName.{OptionName}
use Rattle.ps_words.specs.declared.option_name.OptionName.TheVariants.{Explorers, Provers, Nodes, Traces, Width, Size}

-- the command as it is built
abbrev top : Shape
top = (built command).top

-- a use of an option, or of MODE, of which the next word has nothing to do
abbrev between : List Row → Text → Text → Walk
between rows id text = record {
  held = record { rows = rows; pending = Some (id, text ∷ []); skip = 0 };
  waiting = idle;
  position = 2;
  is_trailing = false;
  stopped = None;
}

-- the row of a use
abbrev option_row : OptionName → Text → Row
option_row option text = record {
  id = option_name option;
  values = text ∷ [];
  count = None;
  source = Some CommandLine;
  reading = WithoutMinus;
}

abbrev mode_row : Mode → Row
mode_row mode = record {
  id = codes "MODE";
  values = mode_name mode ∷ [];
  count = None;
  source = Some CommandLine;
  reading = AsWritten;
}

-- ---- two words of an option

walked_option : (option : OptionName) (rows : List Row) (id text : Text) (x : ℕ) (xs : Text) → (x == 45) ≡ false
    → walked top.rules [] (walked top.rules [] (between rows id text) (codes "--" ++ option_name option)) (x ∷ xs)
    ≡ between (settled_rows top.rules (Some (id, text ∷ [])) rows) (option_name option) (x ∷ xs)
unfolding clap_on_literals
walked_option Explorers rows id text x xs other = rw (other, other) refl
walked_option Provers rows id text x xs other = rw (other, other) refl
walked_option Nodes rows id text x xs other = rw (other, other) refl
walked_option Traces rows id text x xs other = rw (other, other) refl
walked_option Width rows id text x xs other = rw (other, other) refl
walked_option Size rows id text x xs other = rw (other, other) refl

-- ---- numbers as words

most_small : (option : OptionName) → most_number option < 2 ^ 63
most_small Explorers = lit< tt
most_small Provers = lit< tt
most_small Nodes = lit< tt
most_small Traces = lit< tt
most_small Width = lit< tt
most_small Size = lit< tt

-- a word that the option's parser takes as this number, and that begins with a digit
record IsNumberWord (option : OptionName) (n : ℕ) (text : Text) : Type 0 where
  x : ℕ
  xs : Text
  is : text ≡ x ∷ xs
  minus : (x == 45) ≡ false
  reads : number_in (without_minus text) ≡ n
  taken : accepts false (option_parser option) text ≡ true

digits_word : (option : OptionName) (n : ℕ) (text : Text) → Takes option n → IsNumeral 10 text → digits_value 10 text ≡ n → IsNumberWord option n text
digits_word option n [] takes numeral value = let some = numeral.0 in absurd (omega arith)
digits_word option n (x ∷ xs) takes numeral value =
    let digit = digit_from_value x numeral.1.0 in
    let minus : (x == 45) ≡ false = ne_eqb _ _ (λ e. omega (arith, digit)) in
    let plus : (x == 43) ≡ false = ne_eqb _ _ (λ e. omega (arith, digit)) in
    let small = most_small option in
    let least = takes.0 in
    let most = takes.1 in
    let low : pos (least_number option) ≤ℤ pos n = omega (arith, ints) in
    let high : pos n ≤ℤ pos (most_number option) = omega (arith, ints) in
    let fits : n < 2 ^ 63 = omega arith in
    let signed : IsSignedIn (pos (least_number option)) (pos (most_number option)) (x ∷ xs) =
    rw (minus, plus, value) (numeral, record { sfits = fits }, low, high) in record {
      x = x;
      xs = xs;
      is = refl;
      minus = minus;
      reads = rw (minus, plus) value;
      taken = Accepts-accepts false (option_parser option) (x ∷ xs) signed;
    }

number_word : (option : OptionName) (n : ℕ) → Takes option n → IsNumberWord option n (decimal n)
number_word option n takes =
    let small = most_small option in
    let most = takes.1 in
    let numeral = decimal_is_IsNumeral n (omega arith) in
    digits_word option n (decimal n) takes numeral.0 numeral.1

-- ---- rows

at_row_missing : (id : Text) (change : Row → List Row) (missing rows : List Row) → has_row id rows ≡ false
    → at_row id change missing rows ≡ rows ++ missing
at_row_missing id change missing [] none = refl
at_row_missing id change missing (r ∷ rs) none = go (bytes_eq r.id id) refl (λ later. at_row_missing id change missing rs later)
  where
    go : (t : Bool) → bytes_eq r.id id ≡ t → (has_row id rs ≡ false → at_row id change missing rs ≡ rs ++ missing)
        → at_row id change missing (r ∷ rs) ≡ (r ∷ rs) ++ missing
    go true is rest = let bad : true ≡ false = rw is at none in absurd (cc)
    go false is rest = rw is (ap (λ (rest : List Row). r ∷ rest) (rest (rw is at none)))

with_values_new : (id : Text) (how : Reading) (s : ValueSource) (values : List Text) (rows : List Row) → has_row id rows ≡ false
    → with_values id how s values (without id rows) ≡ rows ++ (record { id = id; values = values; count = None; source = Some s; reading = how } ∷ [])
with_values_new id how s values rows none =
    let same : without id rows ≡ rows = at_row_missing id (λ _. []) [] rows none ∙ append-nil rows in
    ap (with_values id how s values) same ∙ at_row_missing id (more_values s values) _ rows none

settled_option : (option : OptionName) (text : Text) (rows : List Row) → has_row (option_name option) rows ≡ false
    → settled_rows top.rules (Some (option_name option, text ∷ [])) rows ≡ rows ++ (option_row option text ∷ [])
settled_option Explorers text rows none = with_values_new (option_name Explorers) WithoutMinus CommandLine (text ∷ []) rows none
settled_option Provers text rows none = with_values_new (option_name Provers) WithoutMinus CommandLine (text ∷ []) rows none
settled_option Nodes text rows none = with_values_new (option_name Nodes) WithoutMinus CommandLine (text ∷ []) rows none
settled_option Traces text rows none = with_values_new (option_name Traces) WithoutMinus CommandLine (text ∷ []) rows none
settled_option Width text rows none = with_values_new (option_name Width) WithoutMinus CommandLine (text ∷ []) rows none
settled_option Size text rows none = with_values_new (option_name Size) WithoutMinus CommandLine (text ∷ []) rows none

-- ---- faults

option_fault : (option : OptionName) (text : Text) (rows : List Row) → has_row (option_name option) rows ≡ false
    → accepts false (option_parser option) text ≡ true → settle_fault top.rules false (between rows (option_name option) text).held ≡ []
option_fault Explorers text rows none taken = rw (none, taken) refl
option_fault Provers text rows none taken = rw (none, taken) refl
option_fault Nodes text rows none taken = rw (none, taken) refl
option_fault Traces text rows none taken = rw (none, taken) refl
option_fault Width text rows none taken = rw (none, taken) refl
option_fault Size text rows none taken = rw (none, taken) refl

first_turn : (option : OptionName) (rows : List Row) (id text : Text) → settle_fault top.rules false (between rows id text).held ≡ []
    → turn_fault top [] (between rows id text) (codes "--" ++ option_name option) ≡ []
first_turn Explorers rows id text none = rw none refl
first_turn Provers rows id text none = rw none refl
first_turn Nodes rows id text none = rw none refl
first_turn Traces rows id text none = rw none refl
first_turn Width rows id text none = rw none refl
first_turn Size rows id text none = rw none refl

second_turn : (option : OptionName) (rows : List Row) (id text : Text) (x : ℕ) (xs : Text) → (x == 45) ≡ false
    → turn_fault top [] (walked top.rules [] (between rows id text) (codes "--" ++ option_name option)) (x ∷ xs) ≡ []
unfolding clap_on_literals
second_turn Explorers rows id text x xs other = rw (other, other) refl
second_turn Provers rows id text x xs other = rw (other, other) refl
second_turn Nodes rows id text x xs other = rw (other, other) refl
second_turn Traces rows id text x xs other = rw (other, other) refl
second_turn Width rows id text x xs other = rw (other, other) refl
second_turn Size rows id text x xs other = rw (other, other) refl

-- ---- the walk

-- the rows of options with their numbers
abbrev rows_given : List Given → List Row
rows_given given = map (λ g. option_row g.0 (decimal g.1)) given

-- none of these options has a row yet, and none comes twice
abbrev NoRows : List Row → List Given → Type 0
NoRows rows [] = Unit {0}
NoRows rows (g ∷ rest) = (has_row (option_name g.0) rows ≡ false) × NoRows (rows ++ (option_row g.0 (decimal g.1) ∷ [])) rest

abbrev walk_end : List Row → Text → Text → List Given → Walk
walk_end rows id text given = fold (walked top.rules []) (between rows id text) (option_words given)

-- what a use and the words of options after it come to
record Passes (rows : List Row) (id text : Text) (row : Row) (given : List Given) : Type 0 where
  faults : walk_fault top [] (between rows id text) (option_words given) ≡ []
  last : settle_fault top.rules false (walk_end rows id text given).held ≡ []
  left : (settled top.rules (walk_end rows id text given).held).rows ≡ (rows ++ (row ∷ [])) ++ rows_given given
  stopped : (walk_end rows id text given).stopped ≡ None

two_words : (rows : List Row) (id text : Text) (row : Row) (option : OptionName) (n : ℕ) → IsNumberWord option n (decimal n)
    → settled_rows top.rules (Some (id, text ∷ [])) rows ≡ rows ++ (row ∷ [])
    → walked top.rules [] (walked top.rules [] (between rows id text) (codes "--" ++ option_name option)) (decimal n)
    ≡ between (rows ++ (row ∷ [])) (option_name option) (decimal n)
two_words rows id text row option n word is =
    ap (walked top.rules [] (walked top.rules [] (between rows id text) (codes "--" ++ option_name option))) word.is
    ∙ walked_option option rows id text word.x word.xs word.minus
    ∙ (λ i. between (is i) (option_name option) (sym word.is i))

passes : (rows : List Row) (id text : Text) (row : Row) → settle_fault top.rules false (between rows id text).held ≡ []
    → settled_rows top.rules (Some (id, text ∷ [])) rows ≡ rows ++ (row ∷ [])
    → (given : List Given) → AreTaken given → NoRows (rows ++ (row ∷ [])) given → Passes rows id text row given
unfolding walk_fault
passes rows id text row fine is [] taken none = record {
  faults = refl;
  last = fine;
  left = is ∙ sym (append-nil (rows ++ (row ∷ [])));
  stopped = refl;
}
passes rows id text row fine is (g ∷ rest) taken none =
    let word = number_word g.0 g.1 taken.0 in
    let more = rows ++ (row ∷ []) in
    let step = two_words rows id text row g.0 g.1 word is in
    let rest_passes = passes more (option_name g.0) (decimal g.1) (option_row g.0 (decimal g.1))
    (option_fault g.0 (decimal g.1) more none.0 word.taken) (settled_option g.0 (decimal g.1) more none.0) rest taken.2 none.1 in
    let second : turn_fault top [] (walked top.rules [] (between rows id text) (codes "--" ++ option_name g.0)) (decimal g.1) ≡ [] =
    ap (turn_fault top [] (walked top.rules [] (between rows id text) (codes "--" ++ option_name g.0))) word.is
    ∙ second_turn g.0 rows id text word.x word.xs word.minus in record {
      faults = (λ i. or_else (first_turn g.0 rows id text fine i) (or_else (second i) (walk_fault top [] (step i) (option_words rest)))) ∙ rest_passes.faults;
      last = ap (λ (w : Walk). settle_fault top.rules false (fold (walked top.rules []) w (option_words rest)).held) step ∙ rest_passes.last;
      left = ap (λ (w : Walk). (settled top.rules (fold (walked top.rules []) w (option_words rest)).held).rows) step ∙ rest_passes.left
          ∙ append_assoc more (option_row g.0 (decimal g.1) ∷ []) (rows_given rest);
      stopped = ap (λ (w : Walk). (fold (walked top.rules []) w (option_words rest)).stopped) step ∙ rest_passes.stopped;
    }

-- ---- the word of the mode

mode_word : (mode : Mode) → walked top.rules [] (walk_from nothing_held) (mode_name mode) ≡ between [] (codes "MODE") (mode_name mode)
unfolding clap_on_literals
mode_word Refute = refl
mode_word Replay = refl
mode_word Check = refl
mode_word Member = refl

mode_turn : (mode : Mode) → turn_fault top [] (walk_from nothing_held) (mode_name mode) ≡ []
unfolding clap_on_literals
mode_turn Refute = refl
mode_turn Replay = refl
mode_turn Check = refl
mode_turn Member = refl

mode_fault : (mode : Mode) → settle_fault top.rules false (between [] (codes "MODE") (mode_name mode)).held ≡ []
mode_fault Refute = refl
mode_fault Replay = refl
mode_fault Check = refl
mode_fault Member = refl

mode_settled : (mode : Mode) → settled_rows top.rules (Some (codes "MODE", mode_name mode ∷ [])) [] ≡ mode_row mode ∷ []
mode_settled Refute = refl
mode_settled Replay = refl
mode_settled Check = refl
mode_settled Member = refl

-- ---- names

names_alike : (a b : OptionName) → bytes_eq (option_name b) (option_name a) ≡ same_option a b
names_alike Explorers Explorers = refl
names_alike Provers Provers = refl
names_alike Nodes Nodes = refl
names_alike Traces Traces = refl
names_alike Width Width = refl
names_alike Size Size = refl
names_alike _ _ = refl

same_is : (a b : OptionName) → same_option a b ≡ true → a ≡ b
same_is Explorers Explorers e = refl
same_is Provers Provers e = refl
same_is Nodes Nodes e = refl
same_is Traces Traces e = refl
same_is Width Width e = refl
same_is Size Size e = refl
same_is _ _ e = absurd (cc)

same_self : (a : OptionName) → same_option a a ≡ true
same_self Explorers = refl
same_self Provers = refl
same_self Nodes = refl
same_self Traces = refl
same_self Width = refl
same_self Size = refl

mode_is_no_option : (option : OptionName) → bytes_eq (codes "MODE") (option_name option) ≡ false
mode_is_no_option Explorers = refl
mode_is_no_option Provers = refl
mode_is_no_option Nodes = refl
mode_is_no_option Traces = refl
mode_is_no_option Width = refl
mode_is_no_option Size = refl

or_false : (a b : Bool) → a ≡ false → b ≡ false → (a || b) ≡ false
or_false a b e f = rw (e, f) refl

has_row_more : (id : Text) (rows : List Row) (row : Row) → has_row id rows ≡ false → bytes_eq row.id id ≡ false → has_row id (rows ++ (row ∷ [])) ≡ false
has_row_more id [] row none other = rw other refl
has_row_more id (r ∷ rs) row none other = go (bytes_eq r.id id) refl (λ later. has_row_more id rs row later other)
  where
    go : (t : Bool) → bytes_eq r.id id ≡ t → (has_row id rs ≡ false → has_row id (rs ++ (row ∷ [])) ≡ false)
        → has_row id ((r ∷ rs) ++ (row ∷ [])) ≡ false
    go true is rest = let bad : true ≡ false = rw is at none in absurd (cc)
    go false is rest = rw is (rest (rw is at none))

no_rows : (rows : List Row) (given : List Given) → ((option : OptionName) → is_given option given ≡ true → has_row (option_name option) rows ≡ false)
    → AreTaken given → NoRows rows given
no_rows rows [] none taken = tt
no_rows rows (g ∷ rest) none taken = (
  none g.0 (rw (same_self g.0) refl),
  no_rows (rows ++ (option_row g.0 (decimal g.1) ∷ [])) rest
      (λ option is.
      has_row_more (option_name option) rows (option_row g.0 (decimal g.1))
      (none option (given_later option is)) (other option is (same_option option g.0) refl)) taken.2,
)
  where
    given_later : (option : OptionName) → is_given option rest ≡ true → is_given option (g ∷ rest) ≡ true
    given_later option is = go (same_option option g.0)
      where
        go : (t : Bool) → (t || is_given option rest) ≡ true
        go true = refl
        go false = is

    other : (option : OptionName) → is_given option rest ≡ true → (t : Bool) → same_option option g.0 ≡ t
        → bytes_eq (option_name g.0) (option_name option) ≡ false
    other option is true e =
        let twice : is_given g.0 rest ≡ true = subst (λ (o : OptionName). is_given o rest ≡ true) (same_is option g.0 e) is in
        let once : is_given g.0 rest ≡ false = taken.1 in absurd (cc)
    other option is false e = names_alike option g.0 ∙ e

-- ---- rows at the end

abbrev look : Text → List Row → Option Row
look id rows = find (λ r. bytes_eq r.id id) rows

look_some : (id : Text) (rows more : List Row) (row : Row) → look id rows ≡ Some row → look id (rows ++ more) ≡ Some row
look_some id [] more row e = absurd (cc)
look_some id (r ∷ rs) more row e = go (bytes_eq r.id id) refl (λ later. look_some id rs more row later)
  where
    go : (t : Bool) → bytes_eq r.id id ≡ t → (look id rs ≡ Some row → look id (rs ++ more) ≡ Some row) → look id ((r ∷ rs) ++ more) ≡ Some row
    go true is rest = rw is (rw is at e)
    go false is rest = rw is (rest (rw is at e))

look_none : (id : Text) (rows more : List Row) → look id rows ≡ None → look id (rows ++ more) ≡ look id more
look_none id [] more e = refl
look_none id (r ∷ rs) more e = go (bytes_eq r.id id) refl (λ later. look_none id rs more later)
  where
    go : (t : Bool) → bytes_eq r.id id ≡ t → (look id rs ≡ None → look id (rs ++ more) ≡ look id more) → look id ((r ∷ rs) ++ more) ≡ look id more
    go true is rest = let bad : Some r ≡ None = rw is at e in absurd (cc)
    go false is rest = rw is (rest (rw is at e))

none_has : (id : Text) (rows : List Row) → look id rows ≡ None → has_row id rows ≡ false
none_has id [] e = refl
none_has id (r ∷ rs) e = go (bytes_eq r.id id) refl (λ later. none_has id rs later)
  where
    go : (t : Bool) → bytes_eq r.id id ≡ t → (look id rs ≡ None → has_row id rs ≡ false) → has_row id (r ∷ rs) ≡ false
    go true is rest = let bad : Some r ≡ None = rw is at e in absurd (cc)
    go false is rest = rw is (rest (rw is at e))

-- the row that an argument's defaults give it
abbrev row_added : Text → Reading → List Text → List Row
row_added id how [] = []
row_added id how (v ∷ vs) = record { id = id; values = v ∷ vs; count = None; source = Some DefaultValue; reading = how } ∷ []

abbrev added : Rule → List Row
added a = row_added a.id (reading_by a) a.defaults

default_rows_new : (id : Text) (how : Reading) (defaults : List Text) (rows : List Row) → has_row id rows ≡ false
    → default_rows id how defaults rows ≡ rows ++ row_added id how defaults
default_rows_new id how [] rows none = sym (append-nil rows)
default_rows_new id how (v ∷ vs) rows none = at_row_missing id (more_values DefaultValue (v ∷ vs)) _ rows none

default_split : (rows : List Row) (a : Rule) → (with_default rows a ≡ rows) ⊎ (with_default rows a ≡ rows ++ added a)
default_split rows a = go (has_row a.id rows) refl
  where
    go : (t : Bool) → has_row a.id rows ≡ t → (with_default rows a ≡ rows) ⊎ (with_default rows a ≡ rows ++ added a)
    go true is = inl (rw is refl)
    go false is = inr (rw is (default_rows_new a.id (reading_by a) a.defaults rows is))

finish_some : (rules : List Rule) (rows : List Row) (id : Text) (row : Row) → look id rows ≡ Some row → look id (fold with_default rows rules) ≡ Some row
finish_some [] rows id row e = e
finish_some (a ∷ rest) rows id row e = finish_some rest (with_default rows a) id row (elim (default_split rows a) [
  | inl same ↦ ap (look id) same ∙ e
  | inr more ↦ ap (look id) more ∙ look_some id rows (added a) row e
])

abbrev first_of_two : Option Row → Option Row → Option Row
first_of_two (Some r) next = Some r
first_of_two None next = next

-- the row that the defaults give an id that has none
abbrev first_added : Text → List Rule → Option Row
first_added id [] = None
first_added id (a ∷ rest) = first_of_two (look id (added a)) (first_added id rest)

other_added : (id other : Text) (how : Reading) (defaults : List Text) → bytes_eq other id ≡ false → look id (row_added other how defaults) ≡ None
other_added id other how [] e = refl
other_added id other how (v ∷ vs) e = rw e refl

default_new : (rows : List Row) (a : Rule) → has_row a.id rows ≡ false → with_default rows a ≡ rows ++ added a
default_new rows a none = rw none (default_rows_new a.id (reading_by a) a.defaults rows none)

default_look : (rows : List Row) (id : Text) (a : Rule) → look id rows ≡ None → look id (with_default rows a) ≡ look id (added a)
default_look rows id a none = go (bytes_eq a.id id) refl
  where
    go : (t : Bool) → bytes_eq a.id id ≡ t → look id (with_default rows a) ≡ look id (added a)
    go true is =
        let same : a.id ≡ id = (bytes_eq-Decides a.id id).0 is in
        ap (look id) (default_new rows a (subst (λ (w : Text). has_row w rows ≡ false) (sym same) (none_has id rows none))) ∙ look_none id rows (added a) none
    go false is = elim (default_split rows a) [
      | inl same ↦ ap (look id) same ∙ none ∙ sym (other_added id a.id (reading_by a) a.defaults is)
      | inr more ↦ ap (look id) more ∙ look_none id rows (added a) none
    ]

finish_none : (rules : List Rule) (rows : List Row) (id : Text) → look id rows ≡ None → look id (fold with_default rows rules) ≡ first_added id rules
finish_none [] rows id none = none
finish_none (a ∷ rest) rows id none = go (look id (added a)) refl (λ later. finish_none rest (with_default rows a) id later)
  where
    go : (o : Option Row) → look id (added a) ≡ o
        → (look id (with_default rows a) ≡ None → look id (fold with_default (with_default rows a) rest) ≡ first_added id rest)
        → look id (fold with_default (with_default rows a) rest) ≡ first_of_two (look id (added a)) (first_added id rest)
    go (Some r) e later = finish_some rest (with_default rows a) id r (default_look rows id a none ∙ e) ∙ sym (ap (λ (o : Option Row). first_of_two o (first_added id rest)) e)
    go None e later = later (default_look rows id a none ∙ e) ∙ sym (ap (λ (o : Option Row). first_of_two o (first_added id rest)) e)

abbrev default_row : OptionName → Row
default_row option = record { id = option_name option; values = default_text option ∷ []; count = None; source = Some DefaultValue; reading = WithoutMinus }

default_is : (option : OptionName) → first_added (option_name option) top.rules ≡ Some (default_row option)
default_is Explorers = refl
default_is Provers = refl
default_is Nodes = refl
default_is Traces = refl
default_is Width = refl
default_is Size = refl

default_reads : (option : OptionName) → number_in (without_minus (default_text option)) ≡ default_number option
default_reads Explorers = refl
default_reads Provers = refl
default_reads Nodes = refl
default_reads Traces = refl
default_reads Width = refl
default_reads Size = refl

-- ---- what the rows say

look_given : (option : OptionName) (given : List Given)
    → look (option_name option) (rows_given given) ≡ option_map (λ g. option_row g.0 (decimal g.1)) (find (λ g. same_option option g.0) given)
look_given option [] = refl
look_given option (g ∷ rest) = go (same_option option g.0) refl (look_given option rest)
  where
    go : (t : Bool) → same_option option g.0 ≡ t
        → look (option_name option) (rows_given rest) ≡ option_map (λ g. option_row g.0 (decimal g.1)) (find (λ g. same_option option g.0) rest)
        → look (option_name option) (rows_given (g ∷ rest)) ≡ option_map (λ g. option_row g.0 (decimal g.1)) (find (λ g. same_option option g.0) (g ∷ rest))
    go true is later = rw (names_alike option g.0 ∙ is, is) refl
    go false is later = rw (names_alike option g.0 ∙ is, is) later

found_taken : (option : OptionName) (given : List Given) (g : Given) → find (λ g. same_option option g.0) given ≡ Some g → AreTaken given → Takes g.0 g.1
found_taken option [] g found taken = absurd (cc)
found_taken option (x ∷ rest) g found taken = go (same_option option x.0) refl (λ later. found_taken option rest g later taken.2)
  where
    go : (t : Bool) → same_option option x.0 ≡ t → (find (λ g. same_option option g.0) rest ≡ Some g → Takes g.0 g.1) → Takes g.0 g.1
    go true is later =
        let same : Some x ≡ Some g = rw is at found in
        let here : x ≡ g = cc in subst (λ (y : Given). Takes y.0 y.1) here taken.0
    go false is later = later (rw is at found)

abbrev base : Mode → List Given → List Row
base mode given = mode_row mode ∷ rows_given given

look_base : (option : OptionName) (mode : Mode) (given : List Given) → look (option_name option) (base mode given) ≡ look (option_name option) (rows_given given)
look_base option mode given = rw (mode_is_no_option option) refl

-- the number that a row gives, or else the default
abbrev number : OptionName → Option Row → ℕ
number option row = unwrap_or (option_map number_in (option_and_then row_text row)) (default_number option)

number_says : (option : OptionName) (mode : Mode) (given : List Given) → AreTaken given
    → option_number option (fold with_default (base mode given) top.rules) ≡ number_given option given
number_says option mode given taken = go (find (λ g. same_option option g.0) given) refl
  where
    go : (o : Option Given) → find (λ g. same_option option g.0) given ≡ o
        → number option (look (option_name option) (fold with_default (base mode given) top.rules)) ≡ option_map_or (λ g. g.1) (find (λ g. same_option option g.0) given) (default_number option)
    go None none =
        let nowhere = look_base option mode given ∙ look_given option given ∙ ap (option_map (λ g. option_row g.0 (decimal g.1))) none in
        ap (number option) (finish_none top.rules (base mode given) (option_name option) nowhere ∙ default_is option) ∙ default_reads option
        ∙ sym (ap (λ (o : Option Given). option_map_or (λ g. g.1) o (default_number option)) none)
    go (Some g) found =
        let there = look_base option mode given ∙ look_given option given ∙ ap (option_map (λ g. option_row g.0 (decimal g.1))) found in
        ap (number option) (finish_some top.rules (base mode given) (option_name option) (option_row g.0 (decimal g.1)) there)
        ∙ (number_word g.0 g.1 (found_taken option given g found taken)).reads
        ∙ sym (ap (λ (o : Option Given). option_map_or (λ g. g.1) o (default_number option)) found)

mode_there : (mode : Mode) (given : List Given) → look (codes "MODE") (fold with_default (base mode given) top.rules) ≡ Some (mode_row mode)
mode_there mode given = finish_some top.rules (base mode given) (codes "MODE") (mode_row mode) refl

-- ---- faults after the walk

no_default_fault : (a : Rule) → (is_empty a.defaults ≡ true) ⊎ (given_default_fault a a.defaults ≡ []) → (rows : List Row) → default_fault rows a ≡ []
no_default_fault a fine rows = go (has_row a.id rows) (is_empty a.defaults) refl fine
  where
    go : (t e : Bool) → is_empty a.defaults ≡ e → (is_empty a.defaults ≡ true) ⊎ (given_default_fault a a.defaults ≡ [])
        → (if t || e then [] else given_default_fault a a.defaults) ≡ []
    go true e is fine = refl
    go false true is fine = refl
    go false false is (inl empty) = absurd (cc)
    go false false is (inr none) = none

abbrev FineDefaults : List Rule → Type 0
FineDefaults [] = Unit {0}
FineDefaults (a ∷ rest) = ((is_empty a.defaults ≡ true) ⊎ (given_default_fault a a.defaults ≡ [])) × FineDefaults rest

no_defaults_fault : (rules : List Rule) → FineDefaults rules → (rows : List Row) → defaults_fault rows rules ≡ []
unfolding defaults_fault
no_defaults_fault [] fine rows = refl
no_defaults_fault (a ∷ rest) fine rows =
    (λ i. or_else (no_default_fault a fine.0 rows i) (defaults_fault (with_default rows a) rest)) ∙ no_defaults_fault rest fine.1 (with_default rows a)

top_defaults : FineDefaults top.rules
top_defaults = (inl refl, (inr refl, (inr refl, (inr refl, (inr refl, (inr refl, (inr refl, (inl refl, tt))))))))

mode_given : (mode : Mode) (given : List Given) → is_given_in (codes "MODE") (fold with_default (base mode given) top.rules) ≡ true
mode_given mode given = ap (λ (o : Option Row). option_map_or (λ r. explicit_source r.source) o false) (mode_there mode given)

no_check_fault : (rows : List Row) → is_given_in (codes "MODE") rows ≡ true → check_fault top rows false ≡ []
no_check_fault rows there = rw there refl

-- ---- plain words

pub plain_asks : (name : Text) (mode : Mode) (given : List Given) → AreTaken given → AskFor (plain_words name mode given) (words_given mode given)
unfolding walk_fault
plain_asks name mode given taken = record {
  taken = taken_so;
  matched = record {
    mode = ap (λ (rows : List Row). first_of (codes "MODE") rows) matches ∙ ap (option_and_then (λ (r : Row). slice_get r.values 0)) (mode_there mode given);
    explorers = says Explorers;
    provers = says Provers;
    nodes = says Nodes;
    traces = says Traces;
    width = says Width;
    size = says Size;
  };
}
  where
    passed : Passes [] (codes "MODE") (mode_name mode) (mode_row mode) given
    passed = passes [] (codes "MODE") (mode_name mode) (mode_row mode) (mode_fault mode) (mode_settled mode) given taken
        (no_rows (mode_row mode ∷ []) given (λ option is. rw (mode_is_no_option option) refl) taken)

    words : List Text
    words = mode_name mode ∷ option_words given

    end_is : walk top.rules [] nothing_held words ≡ walk_end [] (codes "MODE") (mode_name mode) given
    end_is = ap (λ (w : Walk). fold (walked top.rules []) w (option_words given)) (mode_word mode)

    settled_is : (settled top.rules (walk top.rules [] nothing_held words).held).rows ≡ base mode given
    settled_is = ap (λ (w : Walk). (settled top.rules w.held).rows) end_is ∙ passed.left

    matches : matches_of command (plain_words name mode given) ≡ fold with_default (base mode given) top.rules
    matches = ap (λ (rows : List Row). fold with_default rows top.rules) settled_is

    says : (option : OptionName) → number_given option given ≡ option_number option (matches_of command (plain_words name mode given))
    says option = sym (ap (option_number option) matches ∙ number_says option mode given taken)

    stopped : (walk top.rules [] nothing_held words).stopped ≡ None
    stopped = ap (λ (w : Walk). w.stopped) end_is ∙ passed.stopped

    walk_fine : walk_fault top [] (walk_from nothing_held) words ≡ []
    walk_fine = (λ i. or_else (mode_turn mode i) (walk_fault top [] (mode_word mode i) (option_words given))) ∙ passed.faults

    last_fine : settle_fault top.rules false (walk top.rules [] nothing_held words).held ≡ []
    last_fine = ap (λ (w : Walk). settle_fault top.rules false w.held) end_is ∙ passed.last

    check_fine : check_fault top (finished top.rules (walk top.rules [] nothing_held words).held) false ≡ []
    check_fine = ap (λ (rows : List Row). check_fault top (fold with_default rows top.rules) false) settled_is
        ∙ no_check_fault (fold with_default (base mode given) top.rules) (mode_given mode given)

    taken_so : fault_of command (plain_words name mode given) ≡ []
    taken_so = (λ i. level_fault top [] nothing_held words (is_some (entered (built command) (stopped i))) (entered_fault (built command) (stopped i)))
        ∙ (λ i. or_else (walk_fine i) (or_else (last_fine i) (or_else (no_defaults_fault top.rules top_defaults (settled top.rules (walk top.rules [] nothing_held words).held).rows i) (check_fine i))))
