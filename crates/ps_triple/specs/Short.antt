-- Entries and settings whose lists are short enough to be counted.
use Rattle.std.specs.Prelude.{◌<◌, ◌^◌, length}
use Rattle.ps_command.specs.declared.setting.Setting.{Setting}
use Rattle.ps_triple.specs.Fits.{lambda_of}
use Rattle.ps_triple.specs.declared.entry.Entry.{Entry}

-- the rows of initial states and the multipliers are fewer than 2^32
pub record AreShort (setting : Setting) (entry : Entry) : Type 0 where
  pub once : length setting.init_once < 2 ^ 32
  pub each : length setting.init_each < 2 ^ 32
  pub lambda : length (lambda_of entry) < 2 ^ 32
