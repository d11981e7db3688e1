use Rattle.std.proofs.Common.{rules, ◌≡◌}
use Rattle.appender_rolling.specs.Appender.{plain_config}
use Rattle.appender_rolling.proofs.rolling.appender.RollingFileAppender+DirFolder+R+SystemClock+R+R.new.Goals as goal

pub returns-clause-ok : goal.returns-clause-ok
returns-clause-ok g c =
    let set : c.in_ok-filename_prefix.field-0 ≡ plain_config c.args.rotation c.args.prefix.now = search rules in
    rw set at c.build-2.ensures.ok

pub returns-clause-err : goal.returns-clause-err
returns-clause-err g c =
    let set : c.in_ok-filename_prefix.field-0 ≡ plain_config c.args.rotation c.args.prefix.now = search rules in
    rw set at c.build-2.ensures.err
