-- Laws of the definitions: how long each list is, what stands at each place, and what the calls make.
use Rattle.std.specs.Prelude.{◌≡◌, List, ◌++◌, ℕ, ◌+◌, ◌<◌, ◌≤◌, length, take, Float}
use Rattle.std.proofs.Common.{sym, ap, ◌∙◌, arith}
use Rattle.std.specs.Float.Ieee.{nan}
use Rattle.folds.specs.Fold.{fold-same}
use Rattle.folds.specs.Tab.{length-tab, get_d_tab, tab-same}
use Rattle.arith.specs.Float.{infinity, at}
use Rattle.vector.specs.Vector.{copy}
use Rattle.vector.specs.Laws.{Same, same-take, length-copy, copy-at, copy-same}
use Rattle.columns.specs.Columns.{column}
use Rattle.units.specs.Units.{scale_or1, diagonal_scales}
use Rattle.slack_scales.specs.SlackScales.{smaller, smallest, slack_scale, slack_scales, scales_with_slacks}
use Rattle.slack_scales.specs.Chain.{length_chain, chain_in, chain_past}

-- an array of which the first n elements are known
pub same-known : (n m : ℕ) (a l : List Float) → take n a ≡ l → m ≤ n → Same m a l
same-known n m a l e h k i = sym (same-take n a k (omega arith)) ∙ ap (λ (t : List Float). at t k) e

slack_scale-same : (n : ℕ) (x y a : List Float) → Same n x y → slack_scale n x a ≡ slack_scale n y a
unfolding slack_scale smallest
slack_scale-same n x y a e =
    ap scale_or1
    (fold-same n (λ i scale. smaller scale (at x i) (at a i)) (λ i scale. smaller scale (at y i) (at a i)) infinity (λ i s l. rw (e i l)))

slack_scales-same : (n r : ℕ) (x y a : List Float) → Same n x y → slack_scales n r x a ≡ slack_scales n r y a
unfolding slack_scales
slack_scales-same n r x y a e = tab-same r _ _ (λ j l. slack_scale-same n x y (column n a j) e)

pub length-slack_scales : (n r : ℕ) (scales a : List Float) → length (slack_scales n r scales a) ≡ r
unfolding slack_scales
length-slack_scales n r scales a = length-tab r _

module _ (n r : ℕ) (q a : List Float) where
  abbrev variables : List Float
  variables = copy n (diagonal_scales (n + r) q)

  abbrev slacks : List Float
  slacks = slack_scales n r (diagonal_scales (n + r) q) a

  pub length-scales_with_slacks : length (scales_with_slacks n r q a) ≡ n + r
  unfolding scales_with_slacks
  length-scales_with_slacks = length_chain n r variables slacks (length-copy n _) (length-slack_scales n r _ a)

  pub scales_at : (i : ℕ) → i < n → at (scales_with_slacks n r q a) i ≡ at (diagonal_scales (n + r) q) i
  unfolding scales_with_slacks
  scales_at i h = chain_in nan n i variables slacks (length-copy n _) h ∙ copy-at n i h _

  pub scales_slack : (j : ℕ) → j < r → at (scales_with_slacks n r q a) (n + j) ≡ slack_scale n (diagonal_scales (n + r) q) (column n a j)
  unfolding scales_with_slacks slack_scales
  scales_slack j h = chain_past nan n j variables slacks (length-copy n _) ∙ get_d_tab nan r j _ h

  -- from an array of which the first n + r are the variables' scales
  pub scales_known : {t : List Float} (d : List Float) → take (n + r) d ≡ diagonal_scales (n + r) q →
      t ≡ copy n d ++ slack_scales n r d a → t ≡ scales_with_slacks n r q a
  unfolding scales_with_slacks
  scales_known d e f =
      let k : Same n d (diagonal_scales (n + r) q) = same-known (n + r) n d (diagonal_scales (n + r) q) e (omega arith) in
      f ∙ rw (copy-same n d (diagonal_scales (n + r) q) k, slack_scales-same n r d (diagonal_scales (n + r) q) a k)
