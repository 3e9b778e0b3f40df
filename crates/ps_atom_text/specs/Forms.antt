-- Whether a configuration is in form, as a test.
use Rattle.std.specs.Prelude.{ℕ, ◌==◌, nat_lt, nat_le, Bool, true, ◌&&◌, List, [], ◌∷◌, length, Result, Ok, Err, if◌then◌else◌}
use Rattle.std.specs.List.{list_any}
use Rattle.ps_config.specs.Configurations.{Configuration, threads_at}
use Rattle.ps_config.specs.declared.config.TheConstants.{MOST_ATOMS, MOST_THREADS}
use Rattle.ps_lines.specs.declared.form_name.FormName.{FormName}
use Rattle.ps_lines.specs.declared.form_name.FormName.TheVariants.{Limit, Order}
use Rattle.ps_triple.specs.Ascending.{ascend}

-- the thread is below that of the first place, if there is one
abbrev pub is_before_places : ℕ → List (ℕ × ℕ) → Bool
is_before_places thread [] = true
is_before_places thread (p ∷ ps) = nat_lt thread p.0

-- the threads of the places strictly ascend
abbrev pub places_ascend : List (ℕ × ℕ) → Bool
places_ascend [] = true
places_ascend (p ∷ ps) = is_before_places p.0 ps && places_ascend ps

-- the different numbers of a list, each where it stands last
abbrev pub different : List ℕ → List ℕ
different [] = []
different (n ∷ ns) = if list_any (λ m. m == n) ns then different ns else n ∷ different ns

-- threads and atoms ascend
abbrev pub is_ordered : Configuration → Bool
is_ordered c = places_ascend c.at && ascend c.atoms

-- there are few threads, those of the atoms counted, and few atoms
abbrev pub is_small : Configuration → Bool
is_small c = nat_le (length (different (threads_at c))) MOST_THREADS && nat_le (length c.atoms) MOST_ATOMS

-- the configuration, or what is wrong with it
abbrev pub in_form : Configuration → Result Configuration FormName
in_form c = if is_ordered c then (if is_small c then Ok c else Err Limit) else Err Order
