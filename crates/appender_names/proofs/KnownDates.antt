-- Dates, texts and names that are known from elsewhere, so that the definitions say what is meant.
use Rattle.std.proofs.Common.{◌≡◌, pos, negsuc, [], ◌∷◌, map, refl}
use Rattle.std.specs.Prelude.{codes}
use Rattle.appender_names.specs.declared.rotation.RotationKind.TheVariants.{Minutely, Hourly, Weekly, Never}
use Rattle.appender_names.specs.Calendar.{year_of, date_after, date_of}
use Rattle.appender_names.specs.DateText.{date_text}
use Rattle.appender_names.specs.Name.{naming, name_of}

-- 0000-01-01, the leap days of the years 0 and 2000 and the day after the one that 1900 lacks, 1970-01-01 and the last day
pub known_dates : map date_of (0 ∷ 59 ∷ 694020 ∷ 719528 ∷ 730544 ∷ 3652424 ∷ [])
    ≡ record { year = 0; month = 1; day = 1 } ∷ record { year = 0; month = 2; day = 29 } ∷ record { year = 1900; month = 3; day = 1 }
    ∷ record { year = 1970; month = 1; day = 1 } ∷ record { year = 2000; month = 2; day = 29 } ∷ record { year = 9999; month = 12; day = 31 } ∷ []
unfolding date_of year_of date_after
known_dates = refl

-- 2020-02-01 10:01:00, and the second before 1970
pub known_texts : (date_text Minutely (pos 1580551260) ≡ codes "2020-02-01-10-01") × (date_text Hourly (negsuc 0) ≡ codes "1969-12-31-23")
unfolding date_of year_of date_after
known_texts = (refl, refl)

-- a week begins on the Sunday, here also in the year before
pub known_names : (name_of (naming (record { kind = Weekly }) (codes "my_prefix") (codes "log")) (pos 1739786460) ≡ codes "my_prefix.2025-02-16.log")
    × (name_of (naming (record { kind = Weekly }) [] (codes "log")) (pos 1735725660) ≡ codes "2024-12-29.log")
    × (name_of (naming (record { kind = Weekly }) [] []) (negsuc 62135596799) ≡ codes "0000-12-31")
    × (name_of (naming (record { kind = Never }) [] []) (pos 1580551260) ≡ codes "2020-02-01")
    × (name_of (naming (record { kind = Never }) (codes "app") (codes "log")) (pos 1580551260) ≡ codes "app.log")
unfolding date_of year_of date_after
known_names = (refl, refl, refl, refl, refl)
