-- What proofs by hand share: parameters that are handed on, what a call asks, and what it answers. Assumes `Logic`.
use Rattle.std.specs.Prelude.{List, [], ◌∷◌, ℕ, zero, suc}
use seplogic.Ra.Ura.{Ura}
use mir.Syntax.{Fn}
use mir.Val.{Val}
use base.Logic.{ent, id⊢, emp}
use Rattle.std.specs.Borrow.{Fml, ftrue, fsep}
use prog.Wp.{WpFn, Tables}
use types.Logic.{Logic, sem}
use contract.Lifetimes.{Lfts, Shares, AllOutlive}
use contract.Monad.{fact, fact_i}
use types.Kit.{Item, Goal, Soaks, Seq, Step, step, ‵, raw, ◌⊛◌, some, later, ◌$◌, move, use0, use1, split, join, pick, await}
use sound.WpLaws.{WpFn-mono}
use denote.Exit.{left}
use denote.Laws.{Is, shows, Are, Ises, Spells, valss, Tellss, Makess, owns_make}
use denote.RattleType.{RattleType, Denots, Valss, owns}
use denote.Shadow.{Pure, shadow, pure_i}
use denote.Signature.{Slot, type_at, types_at}
use denote.Steps.{peeks, nothing}
use denote.Triple.Clauses.{Clauses, Ended, Lasts, lasts, at_exit, closing}
use denote.Triple.End.{Kepts, Fins}
use denote.Triple.Entry.{Args, Vals, Res, alive}
use denote.Triple.Spec.{Meets, triple_of}
use denote.Triple.Statement.{Contract}
use denote.Triple.Walked.{Stays, fits_of, AllGo, Ending, walk_of, ends_at, walked, walk_Meets}

-- ---- every parameter is handed on: what a walk has of it at exit is what the callee says of its last value
abbrev handed : {n : ℕ} (ss : List (Slot n)) (ks : Kepts ss) → Stays ss ks
handed [] ks = tt
handed (s ∷ ss) ks =
    (record { fit = λ κs x f. Unit {0}; has = λ κs x f vs. left ((s.row κs).exit ks.0) x f }, handed ss ks.1)

handed_fit : {n : ℕ} (κs : Lfts n) (ss : List (Slot n)) (ks : Kepts ss) (a : Denots (types_at ss κs)) (ws : Fins κs ss ks a) →
    fits_of κs ss ks (handed ss ks) a ws
handed_fit κs [] ks a ws = tt
handed_fit κs (s ∷ ss) ks a ws = (tt, handed_fit κs ss ks.1 a.1 ws.1)

handed_go : {M : Type 1} {𝓤 : Ura M} (𝓛 : Logic 𝓤) {n : ℕ} (ss : List (Slot n)) (ks : Kepts ss) →
    AllGo 𝓛 n ss ks (handed ss ks)
handed_go 𝓛 [] ks = tt
handed_go 𝓛 (s ∷ ss) ks =
    (λ κs x f vs fits. 𝓛.laws.⇛_intro (sem 𝓛 (left ((s.row κs).exit ks.0) x f)), handed_go 𝓛 ss ks.1)

module _ {M : Type 1} {𝓤 : Ura M} (𝓛 : Logic 𝓤) (E : Ended) (c : Clauses 𝓤 E) where
  open 𝓛 use {H}

  abbrev hands : Stays E.signature.params E.kept
  hands = handed E.signature.params E.kept

  abbrev pub Walked : Contract 𝓤
  Walked = walk_of 𝓛 E hands c

  pub ends : (y : Walked.Ghost) (v : Val) (r : Res E.signature y.0.0) (ws : Lasts E y.0.0 y.0.3) →
      ent 𝓤 (Ending 𝓛 E hands c y v r ws) (Walked.post y v)
  ends y v r ws = ends_at 𝓛 E hands c y v r ws (handed_fit y.0.0 E.signature.params E.kept y.0.3 ws)

  -- the function meets its contract, from a walk at the parameters' machine values
  module _ (sp : (κs : Lfts E.signature.lifetimes) → Spells (types_at E.signature.params κs)) where
    abbrev at : (κs : Lfts E.signature.lifetimes) (a : Args E.signature κs) → Vals E.signature κs
    at κs a = valss (types_at E.signature.params κs) (sp κs) a

    pub met : (𝓣 : Tables 𝓤 H) (code : Fn) →
        ((κs : Lfts E.signature.lifetimes) → Tellss (types_at E.signature.params κs) (Ises (types_at E.signature.params κs)) (sp κs)) →
        ((κs : Lfts E.signature.lifetimes) (qs : Shares E.signature.lifetimes)
        (bounds : AllOutlive E.signature.lifetimes E.signature.outlives κs) (a : Args E.signature κs) (g : (c κs a).ghost) →
        Are (types_at E.signature.params κs) (Ises (types_at E.signature.params κs)) a (at κs a) →
        ent 𝓤 (Walked.pre ((κs, qs, bounds, a, at κs a), g))
        (WpFn 𝓤 H 𝓣.C 𝓣.Λ code (Walked.args ((κs, qs, bounds, a, at κs a), g)) (Walked.post ((κs, qs, bounds, a, at κs a), g)))) →
        Meets 𝓛 E.signature (WpFn 𝓤 H 𝓣.C 𝓣.Λ code) (closing 𝓛 E c)
    met 𝓣 code tl walk =
        walk_Meets 𝓛 E hands (handed_go 𝓛 E.signature.params E.kept) c (WpFn 𝓤 H 𝓣.C 𝓣.Λ code)
        (WpFn-mono 𝓤 H 𝓛.laws 𝓣 code) (walked 𝓛 E hands c (WpFn 𝓤 H 𝓣.C 𝓣.Λ code) sp tl walk)

module _ {M : Type 1} {𝓤 : Ura M} {𝓛 : Logic 𝓤} {K : Type 0} {Γ : List (Item 𝓤)} {G : Goal 𝓤 𝓛.H} where
  pub states : K → {φ : Type 0} → φ → Step K 𝓛 (raw (fact 𝓤 φ) ∷ Γ) G Γ G
  states t {φ} x = use0 𝓛 (raw (fact 𝓤 φ)) (fact_i 𝓤 φ (emp 𝓤) x)

module _ {M : Type 1} {𝓤 : Ura M} {𝓛 : Logic 𝓤} {K : Type 0} {Γ : List (Item 𝓤)} {G : Goal 𝓤 𝓛.H} where
  -- what a call asks: the tokens, what the parameters own, and a fact
  pub asks : K → {P : Fml} {i : Item 𝓤} {φ : Type 0} → φ → Step K 𝓛 (((i ⊛ ‵ P) ⊛ raw (fact 𝓤 φ)) ∷ Γ) G (i ∷ ‵ P ∷ Γ) G
  asks t x = step (λ s. join t $ states t x $ move t (1 ∷ 0 ∷ []) $ join t $ s)

  -- parameters that own facts alone are had for nothing
  pub owned_all : K → (Rs : List RattleType) → Makess 𝓛 Rs (Ises Rs) → (a : Denots Rs) (vss : Valss Rs) → Are Rs (Ises Rs) a vss →
      Step K 𝓛 (‵ (owns Rs a vss) ∷ Γ) G Γ G
  owned_all t Rs mk a vss g = use0 𝓛 (‵ (owns Rs a vss)) (owns_make 𝓛 Rs (Ises Rs) mk a vss g)

  pub asks_plain : K → (Rs : List RattleType) → Makess 𝓛 Rs (Ises Rs) → (a : Denots Rs) (vss : Valss Rs) → Are Rs (Ises Rs) a vss →
      {φ : Type 0} → φ → Step K 𝓛 (((‵ ftrue ⊛ ‵ (owns Rs a vss)) ⊛ raw (fact 𝓤 φ)) ∷ Γ) G Γ G
  asks_plain t Rs mk a vss g x = step (λ s. owned_all t Rs mk a vss g $ nothing t $ asks t x $ s)

  -- what it leaves: the result, the tokens, what is said of the last values, and what is ensured of both
  pub answers : K → Soaks G → (E : Ended) (c : Clauses 𝓤 E) (y : (triple_of 𝓛 E.signature (closing 𝓛 E c)).Ghost) (v : Val) →
      ((r : Res E.signature y.0.0) (ws : Lasts E y.0.0 y.0.3) → Is (type_at E.signature.result y.0.0) r (v ∷ []) →
      Seq K 𝓛 (‵ ((type_at E.signature.result y.0.0).own_val r (v ∷ [])) ∷ raw (alive 𝓛 E.signature y.0.0 y.0.1)
      ∷ ‵ (lasts E y.0.0 y.0.3 ws) ∷ raw ((c y.0.0 y.0.3).ensures y.1 r (at_exit E y.0.0 y.0.3 ws)) ∷ Γ) G) →
      Seq K 𝓛 (raw ((triple_of 𝓛 E.signature (closing 𝓛 E c)).post y v) ∷ Γ) G
  answers t z E c y v k =
      let R : RattleType = type_at E.signature.result y.0.0 in
      use1 𝓛 (later (some (λ (r : R.Denot). (raw (alive 𝓛 E.signature y.0.0 y.0.1) ⊛ ‵ (R.own_val r (v ∷ [])))
      ⊛ some (λ (ws : Lasts E y.0.0 y.0.3). ‵ (lasts E y.0.0 y.0.3 ws)
      ⊛ raw ((c y.0.0 y.0.3).ensures y.1 r (at_exit E y.0.0 y.0.3 ws)))))) (id⊢ 𝓤 _) $
      await t z $ pick t (λ r. split t $ move t (1 ∷ []) $ pick t (λ ws. split t $ move t (2 ∷ []) $ split t $ move t (1 ∷ []) $
      peeks t R (Is R) (shows 𝓛 R) r (v ∷ []) (λ is. k r ws is)))

-- ---- at the end of a walk whose n parameters the contract says nothing of: the tokens, nothing of the parameters and the result, beside what is ensured
abbrev unsaid : ℕ → Fml
unsaid zero = ftrue
unsaid (suc n) = fsep ftrue (unsaid n)

unsaid_pure : (n : ℕ) → Pure (unsaid n)
unsaid_pure zero = tt
unsaid_pure (suc n) = (tt, unsaid_pure n)

unsaid-holds : (n : ℕ) → shadow (unsaid n)
unsaid-holds zero = tt
unsaid-holds (suc n) = (tt, unsaid-holds n)

pub leaves : {M : Type 1} {𝓤 : Ura M} {𝓛 : Logic 𝓤} {K : Type 0} {G : Goal 𝓤 𝓛.H} → K → (n : ℕ) {P : Fml}
    {i j : Item 𝓤} → Step K 𝓛 ((i ⊛ (‵ (unsaid n) ⊛ ‵ P)) ∷ j ∷ []) G (‵ P ∷ j ∷ i ∷ []) G
leaves t n = step (λ s. pure_i t (unsaid n) (unsaid_pure n) (unsaid-holds n) $ join t $ move t (2 ∷ 0 ∷ []) $ join t $ s)
