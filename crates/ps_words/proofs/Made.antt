-- A command that grows by arguments stays one whose options take their numbers.
use Rattle.std.proofs.Common.{◌≡◌, ◌||◌, ◌∙◌, ℕ, Bool, true, false, List, [], ◌<◌, length, refl, sym, ap, subst, inl, inr, arith, codes, lit<}
use Rattle.std.specs.List.{All, slice_index_or}
use Rattle.std.specs.Str.{bytes_eq}
use Rattle.std.proofs.lemmas.Bool.{cases_lt}
use Rattle.std.proofs.lemmas.List.Elements.{All-push, All-nil}
use Rattle.std.proofs.lemmas.Slice.Eq.{bytes_eq-Decides}
use Rattle.clap.proofs.CallerLemmas.{added_plain}
use Rattle.clap.specs.Built.{AddsArg, IsAuto, IsParsedFrom, IsPlainArg, SameRules}
use Rattle.clap.specs.Facts.{args_of, groups_of}
use Rattle.clap.specs.Simple.{App, app_of, with_rule}
use Rattle.clap.specs.Walk.{Rule, rule_of}
use Rattle.clap.specs.declared.builder.arg.Arg.{Arg}
use Rattle.clap.specs.declared.builder.command.Command.{Command}
use Rattle.clap.specs.declared.builder.command.Command.TheViews.{out-Command}
use Rattle.clap.specs.declared.parser.matches.ArgMatches.{ArgMatches}
use Rattle.std.specs.Prelude.{Some}
use Rattle.ps_words.specs.Command.{mode_rule, option_parser, option_rule}
use Rattle.ps_words.specs.Options.{option_name}
use Rattle.ps_words.specs.declared.option_name.OptionName.{OptionName}
use Rattle.ps_words.specs.declared.option_name.OptionName.TheVariants.{Explorers, Provers, Nodes, Traces, Width, Size}
use Rattle.ps_words.specs.inner.Commands.{IsMade, ParsesAs}

-- a command without arguments
pub made_new : (made : Command) (app : App) → app_of made ≡ app → (args_of made ≡ []) → (groups_of made ≡ [])
    → (out-Command made).has_globals ≡ false → IsMade made app
made_new made app is args groups globals = record {
  app = is;
  globals = globals;
  plain = (subst (All IsPlainArg) (sym args) (All-nil IsPlainArg), groups);
  parses = subst (All ParsesAs) (sym args) (All-nil ParsesAs);
}

-- a command with one argument more
pub made_more : (made more : Command) (arg : Arg) (app : App) → IsMade made app → AddsArg made arg more
    → IsPlainArg arg → arg.global ≡ false → ParsesAs arg → IsMade more (with_rule app (rule_of arg))
made_more made more arg app is added plain local parses = record {
  app = added.shape local ∙ ap (λ (a : App). with_rule a (rule_of arg)) is.app;
  globals = added.globals ∙ (ap (λ (b : Bool). b || arg.global) is.globals ∙ local);
  plain = added_plain made more arg added is.plain plain;
  parses = subst (All ParsesAs) (sym added.args) (All-push ParsesAs (args_of made) added.arg is.parses
      (λ option named. added.rules.parser (option_parser option) (parses option (sym (ap (λ x. x.now) added.rules.id) ∙ named))));
}

-- ---- names

not_help : (option : OptionName) → bytes_eq (option_name option) (codes "help") ≡ false
not_help Explorers = refl
not_help Provers = refl
not_help Nodes = refl
not_help Traces = refl
not_help Width = refl
not_help Size = refl

not_version : (option : OptionName) → bytes_eq (option_name option) (codes "version") ≡ false
not_version Explorers = refl
not_version Provers = refl
not_version Nodes = refl
not_version Traces = refl
not_version Width = refl
not_version Size = refl

not_mode : (option : OptionName) → bytes_eq (option_name option) (codes "MODE") ≡ false
not_mode Explorers = refl
not_mode Provers = refl
not_mode Nodes = refl
not_mode Traces = refl
not_mode Width = refl
not_mode Size = refl

length_name : (option : OptionName) → 0 < length (option_name option)
length_name Explorers = lit< tt
length_name Provers = lit< tt
length_name Nodes = lit< tt
length_name Traces = lit< tt
length_name Width = lit< tt
length_name Size = lit< tt

-- an option's name isn't empty
pub has_name : (option : OptionName) → option_name option ≡ [] → ⊥
has_name option empty =
    let none : length (option_name option) ≡ 0 = ap length empty in
    let some = length_name option in absurd (omega arith)

no_flag : (option : OptionName) (arg : Arg) → arg.id.now ≡ option_name option → IsAuto arg → ⊥
no_flag option arg named (inl help) =
    let same : bytes_eq (option_name option) (codes "help") ≡ true = ap (λ (t : List ℕ). bytes_eq t (codes "help")) (sym named ∙ help) in
    let other = not_help option in absurd (cc)
no_flag option arg named (inr version) =
    let same : bytes_eq (option_name option) (codes "version") ≡ true = ap (λ (t : List ℕ). bytes_eq t (codes "version")) (sym named ∙ version) in
    let other = not_version option in absurd (cc)

-- of the built command an argument with the name of an option takes that option's numbers
pub built_parses : (made : Command) (app : App) (m : ArgMatches) (p : IsParsedFrom made m) → IsMade made app → (option : OptionName)
    → (j : ℕ) (x : Arg) → j < length (args_of p.built) → slice_index_or (args_of p.built) j x ≡ x
    → bytes_eq x.id.now (option_name option) ≡ true → x.value_parser ≡ Some (option_parser option)
built_parses made app m p is option j x high at same =
    let named : x.id.now ≡ option_name option = (bytes_eq-Decides x.id.now (option_name option)).0 same in
    elim (cases_lt j (length (args_of made))) [
      | inl under ↦
          let rules : SameRules (slice_index_or (args_of made) j x) x = subst (λ w. SameRules (slice_index_or (args_of made) j x) w) at (p.from.kept j x under).1 in
          rules.parser (option_parser option) (is.parses j x under option (sym (ap (λ i. i.now) rules.id) ∙ named))
      | inr over ↦ absurd (no_flag option x named (subst IsAuto at (p.from.extra j x over high)))
    ]

alike : (a b : OptionName) → bytes_eq (option_name a) (option_name b) ≡ true → a ≡ b
alike Explorers Explorers e = refl
alike Provers Provers e = refl
alike Nodes Nodes e = refl
alike Traces Traces e = refl
alike Width Width e = refl
alike Size Size e = refl
alike _ _ e = absurd (cc)

-- an argument that shows as an option takes the numbers of each option of its name
pub rule_parses : (arg : Arg) (option : OptionName) → rule_of arg ≡ option_rule option → ParsesAs arg
rule_parses arg option rule other named =
    let same : option ≡ other =
    alike option other ((bytes_eq-Decides (option_name option) (option_name other)).1 (sym (ap (λ (r : Rule). r.id) rule) ∙ named)) in
    ap (λ (r : Rule). r.parser) rule ∙ ap (λ (o : OptionName). Some (option_parser o)) same

-- so does one that shows as MODE, which is no option's name
pub mode_parses : (arg : Arg) → rule_of arg ≡ mode_rule → ParsesAs arg
mode_parses arg rule option named =
    let same : bytes_eq (option_name option) (codes "MODE") ≡ true = ap (λ (t : List ℕ). bytes_eq t (codes "MODE")) (sym named ∙ ap (λ (r : Rule). r.id) rule) in
    let other = not_mode option in absurd (cc)
