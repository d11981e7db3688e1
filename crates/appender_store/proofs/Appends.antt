-- What bodies hold after appends. The proofs of the crates above cite it.
use Rattle.std.proofs.Common.{◌≡◌, ◌≢◌, ℕ, ◌<◌, Bool, true, false, List, [], ◌∷◌, ◌++◌, length, get_or, set, cond, ◌==◌, if◌then◌else◌, arith, refl, ap, sym, ◌∙◌, subst, zero, suc, append_assoc}
use Rattle.std.proofs.lemmas.List.{get_or-set_same, get_or-set_other, append-nil, set-get_or}
use Rattle.appender_store.specs.Content.{Content, body_at, after_append}

-- nothing was added
pub after_append_nothing : (c : Content) (b : ℕ) → after_append c b [] ≡ c
after_append_nothing c b =
    ap (λ bodies. record c { bodies = bodies }) (ap (set c.bodies b) (append-nil (body_at c b)) ∙ set-get_or c.bodies b [])

set_twice : (bodies : List (List ℕ)) (b : ℕ) (p q : List ℕ) →
    set (set bodies b (get_or bodies b [] ++ p)) b (get_or (set bodies b (get_or bodies b [] ++ p)) b [] ++ q) ≡ set bodies b (get_or bodies b [] ++ (p ++ q))
set_twice [] zero p q = refl
set_twice [] (suc b) p q = refl
set_twice (x ∷ xs) zero p q = ap (λ y. y ∷ xs) (append_assoc x p q)
set_twice (x ∷ xs) (suc b) p q = ap (λ ys. x ∷ ys) (set_twice xs b p q)

-- two pieces one after another are one
pub after_append_twice : (c : Content) (b : ℕ) (p q : List ℕ) → after_append (after_append c b p) b q ≡ after_append c b (p ++ q)
after_append_twice c b p q = ap (λ bodies. record c { bodies = bodies }) (set_twice c.bodies b p q)

-- what a body holds after a piece
pub after_append_at : (c : Content) (b x : ℕ) (bytes : List ℕ) → b < length c.bodies → body_at (after_append c b bytes) x ≡ body_at c x ++ (if b == x then bytes else [])
after_append_at c b x bytes h =
    let by : (t : Bool) → (b == x) ≡ t → get_or (set c.bodies b (get_or c.bodies b [] ++ bytes)) x [] ≡ get_or c.bodies x [] ++ cond t bytes [] = λ t. elim t as (λ (v : Bool). (b == x) ≡ v → get_or (set c.bodies b (get_or c.bodies b [] ++ bytes)) x [] ≡ get_or c.bodies x [] ++ cond v bytes []) [
      | true ↦ λ e. let same : b ≡ x = grind arith in subst (λ y. get_or (set c.bodies b (get_or c.bodies b [] ++ bytes)) y [] ≡ get_or c.bodies y [] ++ bytes) same (get_or-set_same c.bodies b (get_or c.bodies b [] ++ bytes) [] h)
      | false ↦ λ e. let other : x ≢ b = grind arith in get_or-set_other c.bodies b x (get_or c.bodies b [] ++ bytes) [] other ∙ sym (append-nil (get_or c.bodies x []))
    ] in
    by (b == x) refl
