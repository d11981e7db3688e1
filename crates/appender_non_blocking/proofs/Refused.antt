-- A full queue gives the offered line back.
use Rattle.std.proofs.Common.{◌≡◌, ℕ, ◌+◌, Bool, true, false, Ok, Err, subst}
use Rattle.std.specs.Prelude.{if◌then◌else◌, Option, Result, Vec}
use Rattle.std.specs.declared.alloc.Global.{Global}
use Rattle.appender_channel.specs.Offers.{AddsPace, OffersWithPace}
use Rattle.appender_channel.specs.declared.pace.Pace.{Pace}
use Rattle.appender_queue.specs.Queue.{Queue, is_open, has_room}
use Rattle.appender_queue.specs.declared.queue.Refused.{Refused}
use Rattle.appender_queue.specs.declared.queue.Refused.TheVariants.{Full, Closed}

same : (opened room : Bool) (ticket : ℕ) (line back : Vec ℕ Global) → AddsPace (if opened then (if room then Ok ticket else Err (Full line)) else Err (Closed line)) (Err (Full back)) → back ≡ line
same true true ticket line back p = absurd p
same true false ticket line back p = cc
same false room ticket line back p = cc

pub given_back : (old new : Queue) (place : Option ℕ) (line back : Vec ℕ Global) → OffersWithPace old place line (Err (Full back)) new → back ≡ line
given_back old new place line back offers = same (is_open old) (has_room old) (old.accepted + 1) line back offers.reply

pub same_line : (old new : Queue) (place : Option ℕ) (line back : Vec ℕ Global) (result : Result (ℕ × Pace) Refused) → OffersWithPace old place line result new → result ≡ Err (Full back) → back ≡ line
same_line old new place line back result offers is = given_back old new place line back (subst (λ r. OffersWithPace old place line r new) is offers)
