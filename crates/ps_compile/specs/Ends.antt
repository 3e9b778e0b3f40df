-- Why a program has no graph.
use Rattle.std.specs.Prelude.{List}
use Rattle.ps_compile.specs.Checks.{Check, IsFirstExceeded}
use Rattle.ps_compile.specs.declared.compile_end.CompileEnd.{CompileEnd}
use Rattle.ps_compile.specs.declared.compile_end.CompileEnd.TheVariants.{Limit, Memory}

-- why there is no graph: of the limits that are exceeded this is the first, or want of memory
abbrev pub IsCompileEnd : List Check → CompileEnd → Type 0
IsCompileEnd checks (Limit place name) = IsFirstExceeded place name checks
IsCompileEnd checks (Memory _) = Unit {0}
