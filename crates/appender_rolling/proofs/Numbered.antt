-- The names of a setup are those of its configuration.
use Rattle.std.proofs.Common.{◌≡◌, ℕ, ◌≤◌, ◌==◌, Bool, true, false, not, List, arith, ap}
use Rattle.appender_names.specs.Name.{Naming, greatest_number}
use Rattle.appender_rolling.specs.Config.{Config, naming_of, is_limited, last_of, IsStamp}
use Rattle.appender_rolling.specs.declared.rolling.setup.Stamp.{Stamp}

abbrev pub config_with : Naming → List ℕ → Bool → ℕ → Bool → ℕ → Bool → Config
config_with n link optional max by_name bytes continues = record { rotation = n.rotation; prefix = n.prefix; suffix = n.suffix; link = link; link_optional = optional; max_files = max; by_name = by_name; max_bytes = bytes; continues = continues }

pub named : (n : Naming) (link : List ℕ) (optional : Bool) (max : ℕ) (by_name : Bool) (bytes : ℕ) (continues : Bool) → n.numbered ≡ not (bytes == 0) → n ≡ naming_of (config_with n link optional max by_name bytes continues)
named n link optional max by_name bytes continues e = ap (λ b. record n { numbered = b }) e

-- the number of a stamp, where names have numbers and where they don't
pub number_below : (c : Config) (s : Stamp) → is_limited c ≡ true → IsStamp c s → s.number ≤ 999999
number_below c s limited is = let low = is.number_is in let last : last_of c ≡ 999999 = ap greatest_number limited in omega (arith, low, last)

pub number_none : (c : Config) (s : Stamp) → is_limited c ≡ false → IsStamp c s → s.number ≡ 0
number_none c s unlimited is = let low = is.number_is in let last : last_of c ≡ 0 = ap greatest_number unlimited in omega (arith, low, last)
