-- `record` sets both halves of the name.
use mathlib.Core.Path.{◌≡◌, refl, sym, ap}
use mathlib.Core.List.{List, [], ◌∷◌, ◌++◌}
use Prim.Native.Nat.{ℕ}
use mir.Syntax.{dcons, dnil, a_type, named}
use mir.Val.{Val, vunit, vptr}
use mir.MapTy.{inst_fn}
use base.Fml.{ftrue, flft, fauth}
use contract.Running.{tables}
use types.Kit.{‵, raw, ◌⊛◌, ◌$◌, ◌∵◌, !, qed, by, move, keep, drop, split, join, fsplit, fsplit3, fjoin, fjoin3, suffices, frame, feq_i}
use types.Run.{unit_lit, of_opd, returns, enter}
use types.ByLocal.{alloc_all, pass_all, free_all, look_at, sets}
use denote.Exit.{yes}
use denote.RattleType.{RattleType, owns}
use denote.Signature.{types_at, plain}
use denote.Builtin.{RefOf}
use denote.Steps.{nothing, opens, closes}
use denote.Param.{param, bounded}
use denote.Triple.Walked.{Stays, stay_dropped, stay_ref, walk_of, ends_at, Goes-dropped, Goes-ref}
use base.Stored.{coded_list, coded_ℕ}
use types.Tokens.{name_agree, name_set}
use denote.Ref.{mut_vals, mut_Tells, shr_vals, shr_Tells}
use Rattle.std.proofs.raw_atomic.Walks.{proved}
use Rattle.line_history.specs.Lines.{coded}
use Rattle.line_history.specs.contracts.Kept as book
use Rattle.line_history.specs.contracts.Mine as share
use Rattle.line_history.proofs.Walks.{hears, hears_last, tells_all}
use Rattle.line_history.specs.contracts.record.{ended, clauses}
use Rattle.line_history.specs.contracts.record.Key.{name as #self}
use Rattle.line_history.proofs.record.Statement as stated
use Rattle.line_history.proofs.record.Code as code

pub record_spec : {M : Type 1} → stated.statement M
record_spec 𝓤 𝓛 𝓜 𝓡 wired Y Z laws lawsZ g d g' d' _ _ =
    let H = 𝓛.H in let 𝓣 = tables 𝓤 H 𝓜 𝓡 𝓡.env in let En = ended Y Z g d g' d' in
    let inst = bounded (a_type ∷ a_type ∷ []) (Y, (Z, tt)) (dcons d (dcons d' dnil)) in let fn = inst_fn inst code.function in let c = clauses Y Z g d g' d' 𝓛 𝓜.mem 𝓡.returns in
    let A : RattleType = book.the_row (param 0 Y) g in let B : RattleType = share.the_row (param 0 Y) g in let T : RattleType = param 1 Z in
    let hs : Stays En.signature.params En.kept = (stay_ref (0 ∷ []) tt (plain (λ _. A)), (stay_ref (1 ∷ []) tt (plain (λ _. B)), (stay_dropped (RefOf (2 ∷ []) tt (plain (λ _. T)) (λ _. tt)) yes, tt))) in
    proved 𝓛 En hs c 𝓜 𝓡 (Goes-ref 𝓛 5 0 tt (plain (λ _. A)), (Goes-ref 𝓛 5 1 tt (plain (λ _. B)), (Goes-dropped 𝓛 5 (RefOf (2 ∷ []) tt (plain (λ _. T)) (λ _. tt)) yes (λ κs x f. refl), tt))) (#self inst) fn (code.unfolded 𝓤 H 𝓜 𝓡 wired (Y, (Z, tt)) d d')
    (λ κs. (mut_vals, (mut_vals, (shr_vals, tt)))) (λ κs. (mut_Tells (named 0) κs.0 A, (mut_Tells (named 1) κs.1.0 B, (shr_Tells (named 2) κs.1.1.0 T, tt)))) (λ κs qs bounds a gh are.
    let r = a.0 in let s = a.1.0 in let k : A.Denot = r.now in let m : B.Denot = s.now in let w : List (List ℕ) = m.lines ++ g'.lines a.1.1.0.now in
    let k' : A.Denot = record { marker = k.marker; place = k.place; lines = w } in let m' : B.Denot = record { marker = m.marker; place = m.place; lines = w } in
    let u : Val = vptr r.ref_ptr.0 r.ref_ptr.1 in let v : Val = vptr s.ref_ptr.0 s.ref_ptr.1 in let x : Val = vptr a.1.1.0.ref_ptr.0 a.1.1.0.ref_ptr.1 in
    let y : (walk_of 𝓛 En hs c).Ghost = ((κs, qs, bounds, a, (u ∷ [], (v ∷ [], (x ∷ [], tt)))), gh) in
    qed 𝓛 (((‵ (flft κs.0 qs.0) ⊛ ‵ (flft κs.1.0 qs.1.0) ⊛ ‵ (flft κs.1.1.0 qs.1.1.0) ⊛ ‵ (flft κs.1.1.1.0 qs.1.1.1.0) ⊛ ‵ (flft κs.1.1.1.1.0 qs.1.1.1.1.0) ⊛ ‵ ftrue) ⊛ ‵ (owns (types_at En.signature.params κs) a y.0.4)) ∷ raw ((c κs a).requires gh) ∷ []) ∵
    move ! (1 ∷ []) $ hears ! (λ _. hears ! (λ _. hears_last ! (λ at. split ! $ split ! $ move ! (1 ∷ []) $ split ! $ move ! (3 ∷ []) $ fsplit ! $ fsplit3 ! $ drop ! $ move ! (2 ∷ []) $ fsplit ! $ fsplit3 ! $ drop ! $
    keep ! (3 ∷ 4 ∷ 7 ∷ 0 ∷ 1 ∷ 5 ∷ 6 ∷ []) $ enter ! 𝓣.C 𝓣.Λ fn (u ∷ v ∷ x ∷ []) _ $ alloc_all ! (λ l. pass_all ! refl ((tt, tt), ((tt, tt), ((tt, tt), tt))) $
    opens ! tt A r.ref_ptr.0 r.ref_ptr.1 (λ cs. move ! (5 ∷ 6 ∷ 7 ∷ []) $ opens ! tt B s.ref_ptr.0 s.ref_ptr.1 (λ ds. move ! (1 ∷ []) $ fsplit ! $ move ! (7 ∷ []) $ fsplit ! $ move ! (3 ∷ 1 ∷ []) $
    types.Kit.rewrite ! 1 (λ (n : ℕ). ‵ (fauth (g.name n) (coded k.lines))) {x = m.place} {y = k.place} at refl $
    name_agree ! {γ = g.name m.place} (coded_list (coded_list coded_ℕ)) {x = m.lines} {y = k.lines} (λ same. name_set ! tt (coded w) $ move ! (1 ∷ 0 ∷ []) $ types.Kit.rewrite ! 0 (λ (n : ℕ). ‵ (fauth (g.name n) (coded w))) {x = k.place} {y = m.place} (sym at) refl $
    move ! (2 ∷ 0 ∷ []) $ fjoin ! $ move ! (2 ∷ 1 ∷ []) $ fjoin ! $
    move ! (2 ∷ 0 ∷ 3 ∷ 4 ∷ 5 ∷ []) $ closes ! tt B m' ds s.ref_ptr.0 s.ref_ptr.1 $ move ! (4 ∷ 3 ∷ 5 ∷ 6 ∷ 7 ∷ []) $ closes ! tt A k' cs r.ref_ptr.0 r.ref_ptr.1 $
    sets ! (of_opd ! (unit_lit !)) refl (tt, tt) $ returns ! (look_at ! 0 refl) $ free_all ! refl $ suffices ! _ (ends_at 𝓛 En hs c y vunit tt (k', (m', (tt, tt))) (tt, (tt, (tt, tt)))) $
    feq_i ! (List Val) (u ∷ []) (u ∷ []) refl $ fjoin3 ! $ move ! (2 ∷ 3 ∷ []) $ feq_i ! (List Val) (v ∷ []) (v ∷ []) refl $ fjoin3 ! $ nothing ! $ nothing ! $ fjoin ! $ move ! (1 ∷ 0 ∷ []) $ fjoin ! $ move ! (1 ∷ 0 ∷ []) $ fjoin ! $
    feq_i ! (List Val) (vunit ∷ []) (vunit ∷ []) refl $ move ! (1 ∷ 0 ∷ []) $ join ! $ move ! (2 ∷ 3 ∷ []) $ join ! $ move ! (2 ∷ 0 ∷ []) $ join ! $ join ! $ frame ! $
    by ! (tells_all 𝓤 ((k.lines ≡ m.lines) ∷ (w ≡ k.lines ++ g'.lines a.1.1.0.now) ∷ (w ≡ w) ∷ ((k.place ≡ k.place) × (m.place ≡ m.place)) ∷ [])
    (sym same, (ap (λ (z : List (List ℕ)). z ++ g'.lines a.1.1.0.now) same, (refl, (refl, refl)))))))))))))
