use Rattle.std.proofs.Common.{rules, ◌≡◌, ◌≤◌, ◌∙◌, ℕ, List, length, slice_index_or, arith, ap, subst, sym}
use Rattle.std.proofs.Math.ListN.{get_or-eq_default}
use Rattle.appender_queue.specs.Queue.{Queue, IsLawful, last_ticket_of}
use Rattle.appender_queue.proofs.LastTickets.{no_place, refused, offers_leave_last_tickets}
use Rattle.appender_queue.proofs.queue.Rules.offer_from.Goals as goal

-- the queue has no such place
pub returns-in_default-get_mut : goal.returns-in_default-get_mut
returns-in_default-get_mut g c =
    let old : Queue = c.args.self.now in
    let offers = c.offer-reply.ensures.offers in
    let same : c.self.inside.last_tickets.items ≡ old.last_tickets =
    ap (λ (q : Queue). q.last_tickets) (c.self.view_is ∙ offers.after) ∙ offers_leave_last_tickets old c.args.line.items in
    let past : length c.self.inside.last_tickets.items ≤ c.args.place = search rules in
    let out : length old.last_tickets ≤ c.args.place = subst (λ (tickets : List ℕ). length tickets ≤ c.args.place) same past in
    let none : last_ticket_of old c.args.place ≡ 0 = get_or-eq_default old.last_tickets 0 out in
    record {
      reply = offers.reply;
      after = c.self.view_is ∙ offers.after ∙ sym (no_place old c.args.place c.args.line.items out);
      lawful = subst (λ q. IsLawful q) (sym c.self.view_is) offers.lawful;
      rises = search rules;
      sets = rw c.in-Ok.is (λ place. absurd (omega (arith, out, place)));
      others = λ other ne. ap (λ tickets. slice_index_or tickets other 0) same;
    }

-- the line was refused
pub returns-in_default : goal.returns-in_default
returns-in_default g c =
    let offers = c.offer-reply.ensures.offers in
    let same = refused c.args.self.now c.args.place c.args.line c.in_default.field-0 (sym offers.reply ∙ c.in_default.is) in
    let stay = ap (λ (q : Queue). q.last_tickets) offers.after ∙ offers_leave_last_tickets c.args.self.now c.args.line.items in
    record {
      reply = offers.reply;
      after = offers.after ∙ sym same;
      lawful = offers.lawful;
      rises = rw c.in_default.is tt;
      sets = rw c.in_default.is tt;
      others = λ other ne. ap (λ tickets. slice_index_or tickets other 0) stay;
    }
