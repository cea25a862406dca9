-- What numbers reading gives: those of the block file's own refusals, 1 to 7.
use Rattle.std.specs.Prelude.{◌≡◌, refl, Bool, true, false, List, ℕ, zero, suc, ◌≤◌, length, Ok, Err}
use Rattle.std.proofs.Common.{lit≤}
use Rattle.folds.specs.Fold.{pick, pick_by}
use Rattle.block.specs.Block.{Block}
use Rattle.format.specs.Read
use Rattle.format.specs.Read.{Verdict, Outcome, block, refused, number, accepted, need, after, first_of, pair_verdict, list_verdict, word_verdict, tempo_verdict, anchor_verdict, span_verdict, cap_verdict, head_verdict, body_verdict, field_verdict, outcome, end_verdict, fields, read}
use Rattle.format.specs.declared.Counts.{Counts}

abbrev pub Small : Verdict → Type 0
Small v = number v ≤ 7

need-small : (t : Bool) (v rest : Verdict) → Small v → Small rest → Small (need t v rest)
unfolding need
need-small true v rest h k = k
need-small false v rest h k = h

after-small : (v rest : Verdict) → Small v → Small rest → Small (after v rest)
after-small v rest = need-small (accepted v) v rest

pick-small : (t : Bool) (v rest : Verdict) → Small v → Small rest → Small (pick t v rest)
unfolding pick
pick-small true v rest h k = h
pick-small false v rest h k = k

-- ---- each verdict of the definition gives 0, or one of these numbers
pub pair-small : (b : List ℕ) (p words i : ℕ) → Small (pair_verdict b p words i)
unfolding pair_verdict
pair-small b p words i =
    need-small _ _ _ (lit≤ tt) (need-small _ _ _ (lit≤ tt) (need-small _ _ _ (lit≤ tt) (need-small _ _ _ (lit≤ tt) (lit≤ tt))))

first-small : (n : ℕ) (f : ℕ → Verdict) → ((i : ℕ) → Small (f i)) → Small (first_of n f)
unfolding first_of
first-small zero f h = lit≤ tt
first-small (suc n) f h = after-small (first_of n f) (f n) (first-small n f h) (h n)

pub list-small : (b : List ℕ) (p words count : ℕ) → Small (list_verdict b p words count)
unfolding list_verdict
list-small b p words count = need-small _ _ _ (lit≤ tt) (first-small count _ (pair-small b p words))

pub word-small : (b : List ℕ) → Small (word_verdict b)
unfolding word_verdict
word-small b =
    need-small _ _ _ (lit≤ tt) (need-small _ _ _ (lit≤ tt) (need-small _ _ _ (lit≤ tt)
    (need-small _ _ _ (lit≤ tt) (need-small _ _ _ (lit≤ tt) (need-small _ _ _ (lit≤ tt) (lit≤ tt))))))

pub tempo-small : (b : List ℕ) (words count : ℕ) → Small (tempo_verdict b words count)
unfolding tempo_verdict
tempo-small b words count = need-small _ _ _ (lit≤ tt) (need-small _ _ _ (lit≤ tt) (list-small b 6 words count))

pub anchor-small : (b : List ℕ) (words count : ℕ) → Small (anchor_verdict b words count)
unfolding anchor_verdict
anchor-small b words count = need-small _ _ _ (lit≤ tt) (list-small b 4 words count)

pub span-small : (b : List ℕ) (words count : ℕ) → Small (span_verdict b words count)
unfolding span_verdict
span-small b words count =
    need-small _ _ _ (lit≤ tt) (need-small _ _ _ (lit≤ tt)
    (after-small _ _ (list-small b 8 words count) (need-small _ _ _ (lit≤ tt) (lit≤ tt))))

pub cap-small : (b : List ℕ) → Small (cap_verdict b)
unfolding cap_verdict
cap-small b = need-small _ _ _ (lit≤ tt) (lit≤ tt)

pub head-small : (r : List ℕ) (last : ℕ) (so : Counts) → Small (head_verdict r last so)
unfolding head_verdict
head-small r last so =
    need-small _ _ _ (lit≤ tt) (need-small _ _ _ (lit≤ tt) (need-small _ _ _ (lit≤ tt)
    (need-small _ _ _ (lit≤ tt) (need-small _ _ _ (lit≤ tt) (need-small _ _ _ (lit≤ tt) (lit≤ tt))))))

pub body-small : (t : ℕ) (b : List ℕ) (words n : ℕ) → Small (body_verdict t b words n)
unfolding body_verdict
body-small t b words n =
    pick-small _ _ _ (word-small b)
    (pick-small _ _ _ (tempo-small b words n)
    (pick-small _ _ _ (anchor-small b words n)
    (pick-small _ _ _ (span-small b words n) (cap-small b))))

pub field-small : (r : List ℕ) (last : ℕ) (so : Counts) → Small (field_verdict r last so)
unfolding field_verdict
field-small r last so = after-small _ _ (head-small r last so) (body-small _ _ _ _)

pub end-small : (last words : ℕ) → Small (end_verdict last words)
unfolding end_verdict
end-small last words = need-small _ _ _ (lit≤ tt) (need-small _ _ _ (lit≤ tt) (lit≤ tt))

-- ---- the file
unfoldable Few : Outcome → Type 0
Few (block b) = Unit {0}
Few (refused n) = n ≤ 7

few : (v : Verdict) (b : Block) → Small v → Few (outcome v b)
unfolding accepted pick Few
few (Ok u) b h = tt
few (Err r) b h = h

fields-few : (most : ℕ) (r : List ℕ) (last : ℕ) (b : Block) → Few (fields most r last b)
unfolding fields Few
fields-few zero r last b = few _ b (end-small last _)
fields-few (suc most) r last b =
    pick_by Few _ (λ e. few _ b (end-small last _)) (λ e. pick_by Few _ (λ g. fields-few most _ _ _) (λ g. field-small r last _))

number-few : (o : Outcome) (n : ℕ) → o ≡ refused n → Few o → n ≤ 7
unfolding Few
number-few (block b) n e h = absurd (block-refused b n e)
  where
    block-refused : (b : Block) (n : ℕ) → block b ≡ refused n → ⊥
    block-refused b n e = cc
number-few (refused m) n e h = let q : m ≡ n = cc in rw q at h

pub read-small : (s : List ℕ) (n : ℕ) → read s ≡ refused n → n ≤ 7
unfolding read
read-small s n e = number-few _ n e (fields-few (length s) s 0 Read.empty)
