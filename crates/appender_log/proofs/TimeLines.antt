-- A time before a line.
use Rattle.std.proofs.Common.{◌≡◌, ◌∙◌, ℕ, ◌+◌, ◌-◌, ◌≤◌, ℤ, List, ◌++◌, take, drop, length, ap, arith, length-take-le, drop-drop, drop_at}
use Rattle.std.specs.Prelude.{codes}
use Rattle.appender_log.specs.Time.{time_text}
use Rattle.appender_log.specs.Written.{line_at}
use borrow.Rule.Slice.PartMut.{put_mid, post_of}

-- a text that ends where the line begins
pub text_before : (start room : ℕ) (line text : List ℕ) → start ≤ room → room ≤ length line
    → drop start (put_mid start (room - start) line text) ≡ text ++ drop room line
text_before start room line text before fits =
    let rest : start + (room - start) ≡ room = omega arith in
    drop_at (take start line) (text ++ post_of start (room - start) line) start (length-take-le start line (omega arith))
    ∙ ap (λ l. text ++ l) (drop-drop (room - start) start line ∙ ap (λ n. drop n line) rest)

pub time_before : (nanos : ℤ) (text line : List ℕ) → text ≡ time_text nanos ++ codes " " → text ++ line ≡ line_at nanos line
time_before nanos text line is = ap (λ t. t ++ line) is
