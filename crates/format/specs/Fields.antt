-- One field more in the code's block, by the field's tag: there is room for it, and the file is read past it.
use Rattle.std.specs.Prelude.{◌≡◌, List, ℕ, ◌+◌, ◌<◌}
use Rattle.std.proofs.Common.{◌∙◌, ap, eq-eqb, ne_eqb}
use Rattle.folds.specs.Fold.{pick_true, pick_false}
use Rattle.block.specs.Block as Spec
use Rattle.block.specs.Ranges.{max_words, max_tempos, max_anchors, max_spans}
use Rattle.format.specs.Read.{u32_at, word_tag, tempo_tag, anchor_tag, span_tag, word_from, tempo_from, anchor_from, span_from}
use Rattle.format.specs.Read.{with_word, with_tempo, with_anchor, with_span, with_cap}
use Rattle.format.specs.Structs.{word_of, tempo_of, anchor_of, span_of, block_of, counts_of, Filled}
use Rattle.format.specs.Equations.{with_body_by}
use Rattle.format.specs.More.{room-word, room-tempo, room-anchor, room-span, word-more, tempo-more, anchor-more, span-more, cap-more}
use Rattle.format.specs.More.{add_word, add_tempo, add_anchor, add_span, put_cap}
use Rattle.format.specs.Loop.{ReadTo, Parts}
use Rattle.format.specs.declared.Word.{Word}
use Rattle.format.specs.declared.Tempo.{Tempo}
use Rattle.format.specs.declared.Anchor.{Anchor}
use Rattle.format.specs.declared.Span.{Span}
use Rattle.format.specs.declared.Block as Struct

module _ {s : List ℕ} {at : ℕ} {k : Struct.Block} {t : ℕ} {b : List ℕ} {n e : ℕ} (p : Parts s at k t b n e) where
  module _ (is_IsWord : t ≡ word_tag) where
    pub word-room : k.words < max_words
    word-room = room-word t (counts_of k) p.room is_IsWord

    pub word-read : (w : Word) → word_of w ≡ word_from b → ReadTo s (at + e) t (add_word k w)
    word-read w h =
        let m = word-more k p.sound w word-room in
        p.next (add_word k w)
        (with_body_by t b n (block_of k)
        (pick_true _ _ (eq-eqb _ _ is_IsWord)
        (m.0 ∙ ap (λ (x : Spec.Word). with_word x (block_of k)) h)))
        m.1

  module _ (no_word : t ≡ word_tag → ⊥) where
    module _ (is-tempo : t ≡ tempo_tag) where
      pub tempo-room : k.tempos < max_tempos
      tempo-room = room-tempo t (counts_of k) p.room no_word is-tempo

      pub tempo-read : (x : Tempo) → (tempo_of x ≡ tempo_from b n) × Filled x.list → ReadTo s (at + e) t (add_tempo k x)
      tempo-read x h =
          let m = tempo-more k p.sound x tempo-room h.1 in
          p.next (add_tempo k x)
          (with_body_by t b n (block_of k)
          (pick_false _ _ (ne_eqb _ _ no_word)
          (pick_true _ _ (eq-eqb _ _ is-tempo)
          (m.0 ∙ ap (λ (y : Spec.Tempo). with_tempo y (block_of k)) h.0))))
          m.1

    module _ (no-tempo : t ≡ tempo_tag → ⊥) where
      module _ (is-anchor : t ≡ anchor_tag) where
        pub anchor-room : k.anchors < max_anchors
        anchor-room = room-anchor t (counts_of k) p.room no_word no-tempo is-anchor

        pub anchor-read : (x : Anchor) → (anchor_of x ≡ anchor_from b n) × Filled x.list → ReadTo s (at + e) t (add_anchor k x)
        anchor-read x h =
            let m = anchor-more k p.sound x anchor-room h.1 in
            p.next (add_anchor k x)
            (with_body_by t b n (block_of k)
            (pick_false _ _ (ne_eqb _ _ no_word)
            (pick_false _ _ (ne_eqb _ _ no-tempo)
            (pick_true _ _ (eq-eqb _ _ is-anchor)
            (m.0 ∙ ap (λ (y : Spec.Anchor). with_anchor y (block_of k)) h.0)))))
            m.1

      module _ (no-anchor : t ≡ anchor_tag → ⊥) where
        module _ (is-span : t ≡ span_tag) where
          pub span-room : k.spans < max_spans
          span-room = room-span t (counts_of k) p.room no_word no-tempo no-anchor is-span

          pub span-read : (x : Span) → (span_of x ≡ span_from b n) × Filled x.list → ReadTo s (at + e) t (add_span k x)
          span-read x h =
              let m = span-more k p.sound x span-room h.1 in
              p.next (add_span k x)
              (with_body_by t b n (block_of k)
              (pick_false _ _ (ne_eqb _ _ no_word)
              (pick_false _ _ (ne_eqb _ _ no-tempo)
              (pick_false _ _ (ne_eqb _ _ no-anchor)
              (pick_true _ _ (eq-eqb _ _ is-span)
              (m.0 ∙ ap (λ (y : Spec.Span). with_span y (block_of k)) h.0))))))
              m.1

        pub cap-read : (t ≡ span_tag → ⊥) → (cap : ℕ) → cap ≡ u32_at b 0 → ReadTo s (at + e) t (put_cap k cap)
        cap-read no_span cap h =
            let m = cap-more k p.sound cap in
            p.next (put_cap k cap)
            (with_body_by t b n (block_of k)
            (pick_false _ _ (ne_eqb _ _ no_word)
            (pick_false _ _ (ne_eqb _ _ no-tempo)
            (pick_false _ _ (ne_eqb _ _ no-anchor)
            (pick_false _ _ (ne_eqb _ _ no_span)
            (m.0 ∙ ap (λ (x : ℕ). with_cap x (block_of k)) h))))))
            m.1
