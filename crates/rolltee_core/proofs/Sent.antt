-- What is sent of the pieces of an input.
use Rattle.std.proofs.Common.{◌≡◌, ℕ, List, [], ◌++◌, Bool, true, false, not, refl, sym, ap, subst, ◌∙◌, append-nil, append_assoc}
use Rattle.std.specs.Prelude.{Option}
use Rattle.std.specs.Io.KnownBytes.{Appends}
use Rattle.std.proofs.KnownBytes.{Appends-nil, Appends-trans}
use Rattle.program_io.specs.Options.{has_option}
use Rattle.program_io.specs.declared.options.Options.{Options}
use Rattle.program_io.specs.declared.options.OptionName.TheVariants.{Timestamps, Echo}
use Rattle.rolltee_core.specs.Feed.{Feeding, FeedsLines, IsFed, IsTextOf, Sends, begins_after}
use Rattle.rolltee_core.proofs.Timed.{begins_on, text_none, text_on}

not_twice : (b : Bool) → not (not b) ≡ b
not_twice true = refl
not_twice false = refl

module _ {Q O : Type 0} (sent : Q → List ℕ) (contents : O → Option (List ℕ)) (first : List ℕ) (before : Option (List ℕ)) (options : Options) where
  -- nothing was sent yet
  pub fed_nothing : (sink : Q) (output : O) → first ≡ sent sink → before ≡ contents output
      → IsFed sent contents first before options (record { echoing = record { sink = sink; output = output; echo = has_option Echo options; unechoed = 0 }; timestamps = has_option Timestamps options; within = false; given = [] })
  fed_nothing sink output none is = record {
    timestamps = refl;
    echo = refl;
    within = refl;
    lines = [];
    timed = text_none (has_option Timestamps options);
    sent_is = sym none ∙ sym (append-nil first);
    echoed = λ echo all. subst (λ b. Appends b (contents output) []) (sym is) (Appends-nil (contents output));
  }

  -- the same was sent and echoed
  pub fed_same : {old new : Feeding Q O} → IsFed sent contents first before options old → sent new.echoing.sink ≡ sent old.echoing.sink
      → new.echoing ≡ record old.echoing { sink = new.echoing.sink } → new.timestamps ≡ old.timestamps → new.within ≡ old.within → new.given ≡ old.given
      → IsFed sent contents first before options new
  fed_same {old} {new} fed same is timestamps within given = record {
    timestamps = timestamps ∙ fed.timestamps;
    echo = ap (λ e. e.echo) is ∙ fed.echo;
    within = within ∙ fed.within ∙ sym (ap (λ g. not (begins_after true g)) given);
    lines = fed.lines;
    timed = subst (λ t. IsTextOf t true new.given fed.lines) (sym timestamps) (subst (λ g. IsTextOf old.timestamps true g fed.lines) (sym given) fed.timed);
    sent_is = same ∙ fed.sent_is;
    echoed = λ echo all. subst (λ o. Appends before (contents o) fed.lines) (sym (ap (λ e. e.output) is))
        (fed.echoed (sym (ap (λ e. e.echo) is) ∙ echo) (sym (ap (λ e. e.unechoed) is) ∙ all));
  }

  -- one piece more
  pub fed_more : {old new : Feeding Q O} (piece text : List ℕ) → IsFed sent contents first before options old → IsTextOf old.timestamps (not old.within) piece text
      → Sends sent contents text old.echoing new.echoing → new.echoing.echo ≡ old.echoing.echo → new.timestamps ≡ old.timestamps
      → new.within ≡ not (begins_after (not old.within) piece) → new.given ≡ old.given ++ piece → IsFed sent contents first before options new
  fed_more {old} {new} piece text fed timed sends echo timestamps within given =
      let begins : not old.within ≡ begins_after true old.given = ap not fed.within ∙ not_twice (begins_after true old.given) in
      let all : begins_after true new.given ≡ begins_after (not old.within) piece =
      ap (begins_after true) given ∙ begins_on true old.given piece ∙ ap (λ b. begins_after b piece) (sym begins) in
      record {
        timestamps = timestamps ∙ fed.timestamps;
        echo = echo ∙ fed.echo;
        within = within ∙ sym (ap not all);
        lines = fed.lines ++ text;
        timed = subst (λ t. IsTextOf t true new.given (fed.lines ++ text)) (sym timestamps)
            (subst (λ g. IsTextOf old.timestamps true g (fed.lines ++ text)) (sym given)
            (text_on old.timestamps true old.given piece fed.lines text fed.timed
            (subst (λ b. IsTextOf old.timestamps b piece text) begins timed)));
        sent_is = sends.sink ∙ ap (λ t. t ++ text) fed.sent_is ∙ append_assoc first fed.lines text;
        echoed = λ is_echoed all_echoed.
            let was = sym echo ∙ is_echoed in
            Appends-trans before (contents old.echoing.output) (contents new.echoing.output) fed.lines text
            (fed.echoed was (sends.output.lasts all_echoed)) (sends.output.whole was all_echoed);
      }

  -- the lines of all pieces
  pub fed_lines : (f : Feeding Q O) → (fed : IsFed sent contents first before options f) → f.echoing.unechoed ≡ 0
      → FeedsLines options before (contents f.echoing.output) f.given fed.lines
  fed_lines f fed all = record {
    timed = subst (λ t. IsTextOf t true f.given fed.lines) fed.timestamps fed.timed;
    echoed = λ echo. fed.echoed (fed.echo ∙ echo) all;
  }
