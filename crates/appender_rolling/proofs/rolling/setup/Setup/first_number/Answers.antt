use Rattle.std.proofs.Common.{w64, FitsSigned, ◌≡◌, ◌∙◌, Bool, true, false, map, refl, ap, sym, arith, string_bytes}
use Rattle.std.proofs.lemmas.Int.{to_z-of_z}
use Rattle.appender_names.specs.Name.{Naming, greatest_number}
use Rattle.appender_store.specs.Folder.{listed_row}
use Rattle.appender_rolling.specs.Config.{naming_of, is_limited, last_of}
use Rattle.appender_rolling.specs.Opening.{IsFirstNumber, IsListed}
use Rattle.appender_rolling.specs.Inside.Numbers.{first_number as first_of}
use Rattle.appender_rolling.proofs.Numbers.{of_listing, of_content}
use Rattle.appender_rolling.proofs.Numbered.{named}
use Rattle.appender_rolling.proofs.rolling.setup.Setup.first_number.Goals as goal

pub returns-in-Ok : goal.returns-in-Ok
returns-in-Ok g c =
    let fits : FitsSigned w64 c.args.moment = c.ranges.moment in
    let numbered : c.self.inside.names.numbered ≡ true = sym c.is_numbered.ensures ∙ c.if-not-is_numbered.false in
    let limited : is_limited c.args.self.now ≡ true = rw (← c.self.view_is) (sym c.self.invariant ∙ numbered) in
    let last : last_of c.args.self.now ≡ 999999 = ap greatest_number limited in
    let names : c.self.inside.names ≡ naming_of c.args.self.now = rw (← c.self.view_is) (named c.self.inside.names (string_bytes c.self.inside.link) c.self.inside.link_optional c.self.inside.max_files c.self.inside.by_name c.self.inside.max_bytes c.self.inside.continues c.self.invariant) in
    let on : c.self.inside.continues ≡ c.args.self.now.continues = rw (← c.self.view_is) refl in
    let named_by : c.self.inside.by_name ≡ c.args.self.now.by_name = rw (← c.self.view_is) refl in
    let found = simp to_z-of_z at c.first_number.ensures.value in
    let value : c.first_number.result ≡ first_of (naming_of c.args.self.now) c.args.self.now.by_name c.args.self.now.continues c.args.moment (map listed_row c.in-Ok.listed.items) =
    found ∙ ap (λ (n : Naming). first_of n c.self.inside.by_name c.self.inside.continues c.args.moment (map listed_row c.deref.result.now)) names
    ∙ ap (λ (b : Bool). first_of (naming_of c.args.self.now) b c.self.inside.continues c.args.moment (map listed_row c.deref.result.now)) named_by
    ∙ ap (λ (b : Bool). first_of (naming_of c.args.self.now) c.args.self.now.by_name b c.args.moment (map listed_row c.deref.result.now)) on
    ∙ ap (λ all. first_of (naming_of c.args.self.now) c.args.self.now.by_name c.args.self.now.continues c.args.moment (map listed_row all)) c.deref.ensures.value in
    let is_first : IsFirstNumber c.args.self.now c.args.moment (IsListed (map listed_row c.in-Ok.listed.items)) c.first_number.result =
    rw value (of_listing c.args.self.now c.args.moment c.requires (map listed_row c.in-Ok.listed.items)) in
    record {
      none = λ e. absurd (let both : true ≡ false = sym limited ∙ e in cc);
      calls = λ e. record {
        answer = c.list.result;
        listed = c.list.new.self;
        call = c.list.ensures.call;
        cause = c.list.ensures.cause;
        there = c.list.ensures.there;
        content = c.in-Ok.ensures.content;
        noted = c.in-Ok.ensures.notices;
        number_is = rw c.in-Ok.is (is_first, refl);
        number_in = λ ok is_known. of_content c.args.self.now c.args.moment c.requires (g.S.Folder.content c.args.folder.now) c.in-Ok.listed.items c.first_number.result (c.in-Ok.ensures.ok is_known) is_first;
      };
      number_is = omega (arith, last, c.first_number.ensures.bound);
      content = c.in-Ok.ensures.content;
    }
