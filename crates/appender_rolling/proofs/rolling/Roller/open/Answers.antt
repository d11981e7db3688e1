use Rattle.std.proofs.Common.{w64, FitsSigned, ◌≡◌, ◌≢◌, ◌∙◌, Err, ap, inl, refl, string_bytes}
use Rattle.std.proofs.lemmas.Int.{to_z-of_z}
use Rattle.appender_names.specs.declared.error.InitError.TheVariants.{Memory}
use Rattle.appender_names.specs.Rotation.{next_of}
use Rattle.appender_rolling.specs.Config.{IsStamp, stamp}
use Rattle.appender_rolling.specs.Opening.{file_name_of, FindsNumber, RefusesFile}
use Rattle.appender_rolling.specs.Roller.{IsLaterBoundary, IsSchedule}
use Rattle.appender_rolling.proofs.Boundaries.{next_is_later}
use Rattle.appender_rolling.proofs.Refusals.{refuses_roller}
use Rattle.appender_rolling.proofs.rolling.Roller.open.Goals as goal

pub returns-in-Err-open_file-clause-err : goal.returns-in-Err-open_file-clause-err
returns-in-Err-open_file-clause-err g c =
    let fits : FitsSigned w64 c.args.moment = c.ranges.moment in
    let ready = simp to_z-of_z at c.in-Ok.ensures.ok in
    let found : FindsNumber g.S.Folder c.args.builder.now c.args.moment c.args.folder c.first_number-number.result c.first_number-number.new.folder =
    rw (← ready.setup_is) (simp to_z-of_z at c.first_number-number.ensures) in
    let numbered = simp to_z-of_z at c.renumber.ensures in
    let name = c.as_str.ensures.value ∙ numbered in
    let refused : RefusesFile g.S.Folder c.args.builder.now (file_name_of c.args.builder.now (stamp c.args.moment c.first_number-number.result)) c.first_number-number.new.folder c.in-Err-open_file.error c.open_file.new.folder =
    rw (← ready.setup_is, ← name) c.in-Err-open_file.ensures.err in
    let some : c.in-Err-open_file.error ≢ Memory = λ is. c.open_file.ensures.memory (c.in-Err-open_file.is ∙ ap Err is) in
    refuses_roller g.S.Folder c.args.builder.now c.args.moment c.args.folder c.first_number-number.new.folder c.first_number-number.result c.in-Err-open_file.error c.open_file.new.folder
    ready.may_open found some refused

pub invariant_of-result : goal.invariant_of-result
invariant_of-result g c =
    let fits : FitsSigned w64 c.args.moment = c.ranges.moment in
    let ready = simp to_z-of_z at c.in-Ok.ensures.ok in
    let date = simp to_z-of_z at c.next_date-boundary.ensures in
    let is_stamp : IsStamp c.in-Ok.ready.0 (stamp c.args.moment c.first_number-number.result) = record { in_range = ready.may_open.in_range; number_is = c.first_number-number.ensures.number_is } in
    let named : string_bytes c.renumber.new.name ≡ file_name_of c.in-Ok.ready.0 (stamp c.args.moment c.first_number-number.result) = simp to_z-of_z at c.renumber.ensures in
    let ahead : IsLaterBoundary c.in-Ok.ready.0.rotation c.args.moment c.next_date-boundary.result = rw (← c.rotation.ensures) (next_is_later _ _ _ date.none date.boundary) in
    let whole : IsSchedule c.in-Ok.ready.0 (string_bytes c.renumber.new.name) (stamp c.args.moment c.first_number-number.result) (stamp c.args.moment c.first_number-number.result) c.next_date-boundary.result =
    record {
      is_opened = record { is_stamp = is_stamp; name_is = named; later_boundary = ahead };
      is_last_attempt = record {
        is_stamp = is_stamp;
        not_before = inl refl;
        boundary_is = date.value ∙ ap (λ r. next_of r c.args.moment) c.rotation.ensures;
      };
    } in
    simp to_z-of_z whole
