-- What a call promises of its answer.
use Rattle.std.specs.Prelude.{◌≡◌, Result, Ok, Err}
use Rattle.ps_parse.specs.declared.read_refusal.ReadRefusal.{ReadRefusal}
use Rattle.ps_parse.specs.declared.read_refusal.ReadRefusal.TheVariants.{Memory}

-- The answer is this refusal, or memory ran out.
abbrev pub Refuses : {A : Type 0} → ReadRefusal → Result A ReadRefusal → Type 0
Refuses (Memory e) read = Unit {0}
Refuses refusal read = read ≡ Err refusal

-- The answer of a call is this one, unless memory runs out.
abbrev pub ReadsWhole : {X A : Type 0} → (X → A) → Result X ReadRefusal → Result A ReadRefusal → Type 0
ReadsWhole view (Ok x) answer = answer ≡ Ok (view x)
ReadsWhole view (Err refusal) answer = Refuses refusal answer
