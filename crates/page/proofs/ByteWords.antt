-- The words that bytes spell, place by place: word k is that of the 8 bytes from 8 k on. A write of 8 bytes there gives
-- word k, and since groups do not overlap, every other word keeps its bytes. Assumes nothing.
use Rattle.std.proofs.Common.{◌≡◌, ℕ, zero, suc, ◌+◌, ◌*◌, ◌/◌, ◌^◌, ◌<◌, ◌≤◌, min, ◌≢◌, List, ◌++◌, length, get_or, take, drop, set, Ok, Err, Result, sym, refl, ap, ◌∙◌, ⊎_elim, arith}
use borrow.Rule.Slice.PartMut.{put_mid}
use Rattle.std.proofs.lemmas.List.{drop-drop, drop_at, drop-take, take_at, length-append, length-take, length-take-le, length-drop, length-set, ext_get_or, get_or-set_same, get_or-set_other, set_past}
use Rattle.std.proofs.lemmas.Slice.{take-put_mid_below, drop-put_mid}
use Rattle.std.proofs.lemmas.List.FromFn.{length-map-range_with_len, get_or-map-range_with_len}
use Rattle.std.proofs.lemmas.Bool.{cond_below, cond_above, cases_lt, cases_order}
use Rattle.std.specs.Simd.{first_chunks}
use Rattle.word.specs.declared.word.Word.{Word}
use Rattle.page.specs.ByteWords.{group_at, byte_size, byte_words, bytes_after}
use Rattle.word.specs.Groups.{group_bytes, group_word}
use Rattle.page.specs.Pages.{read_answer, outside}
use Rattle.word.specs.Words.{blank_word}
use Rattle.page.specs.declared.outside.Outside.{Outside}
use Rattle.word.proofs.Groups.{group_back}

-- bytes spell a word for each whole group, 4,096 at most
pub length_words : (bytes : List ℕ) → length (byte_words bytes) ≡ byte_size bytes
length_words bytes = length-map-range_with_len (λ k. group_word (group_at bytes k)) 0 (byte_size bytes)

-- the word at a place is that of the group there
pub word_at : (bytes : List ℕ) (k : ℕ) (d : Word) → k < byte_size bytes → get_or (byte_words bytes) k d ≡ group_word (group_at bytes k)
word_at bytes k d h = get_or-map-range_with_len (λ p. group_word (group_at bytes p)) 0 (byte_size bytes) k k d h (omega arith)

-- the bytes as arrays of 8 are the groups
chunk_at : (n : ℕ) (bytes : List ℕ) (k : ℕ) (d : List ℕ) → k < n → get_or (first_chunks 8 n bytes) k d ≡ group_at bytes k
chunk_at zero bytes k d h = let no_way : ⊥ = omega arith in absurd no_way
chunk_at (suc n) bytes zero d h = refl
chunk_at (suc n) bytes (suc k) d h =
    let next : 8 + k * 8 ≡ suc k * 8 = omega arith in
    chunk_at n (drop 8 bytes) k d (omega arith) ∙ ap (take 8) (drop-drop (k * 8) 8 bytes)
    ∙ ap (λ (m : ℕ). take 8 (drop m bytes)) next

-- a read inside gives the word of the group there
pub read_inside : (bytes : List ℕ) (k : ℕ) (x : Word) (groups : List (List ℕ)) (d : List ℕ) → k < length (byte_words bytes) → groups ≡ first_chunks 8 (length bytes / 8) bytes → x ≡ group_word (get_or groups k d) → ◌≡◌ {A = Result Word Outside} (Ok x) (read_answer (byte_words bytes) k)
read_inside bytes k x groups d h e spells =
    let lt : k < byte_size bytes = omega (arith, length_words bytes) in
    let there = ap (λ (gs : List (List ℕ)). get_or gs k d) e ∙ chunk_at (length bytes / 8) bytes k d (omega arith) in
    let found : Result Word Outside = Ok (get_or (byte_words bytes) k blank_word) in
    ap Ok (spells ∙ ap group_word there ∙ sym (word_at bytes k blank_word lt))
    ∙ cond_below k (length (byte_words bytes)) found (Err outside) h

-- the bytes with another group at a place
abbrev pub put : List ℕ → ℕ → List ℕ → List ℕ
put bytes k group = take (k * 8) bytes ++ (group ++ drop (k * 8 + 8) bytes)

-- as a write into the middle leaves them
put_is : (bytes : List ℕ) (k n : ℕ) (group : List ℕ) → n ≡ 8 → put_mid (k * 8) n bytes group ≡ put bytes k group
put_is bytes k n group e = rw e (ap (λ (rest : List ℕ). take (k * 8) bytes ++ (group ++ rest)) (drop-drop 8 (k * 8) bytes))

module _ (bytes : List ℕ) (k : ℕ) (group : List ℕ) (inside : k * 8 + 8 ≤ length bytes) (eight : length group ≡ 8) where
  -- the bytes stay as many
  pub length_put : length (put bytes k group) ≡ length bytes
  length_put = simp (length-append, length-take, length-drop) (omega arith)

  -- the group that was put is there
  pub group_put_same : group_at (put bytes k group) k ≡ group
  group_put_same =
      ap (take 8) (drop_at (take (k * 8) bytes) (group ++ drop (k * 8 + 8) bytes) (k * 8) (length-take-le (k * 8) bytes (omega arith)))
      ∙ take_at group (drop (k * 8 + 8) bytes) 8 eight

  -- a group before it is as it was
  pub group_put_before : (j : ℕ) → j < k → group_at (put bytes k group) j ≡ group_at bytes j
  group_put_before j h =
      let middle = put_is bytes k 8 group refl in
      sym (drop-take (j * 8) 8 (put bytes k group))
      ∙ ap (λ (zs : List ℕ). drop (j * 8) (take (j * 8 + 8) zs)) (sym middle)
      ∙ ap (drop (j * 8)) (take-put_mid_below (k * 8) 8 bytes group (j * 8 + 8) (omega arith) (omega arith))
      ∙ drop-take (j * 8) 8 bytes

  -- a group past it is as it was
  pub group_put_past : (j : ℕ) → k < j → group_at (put bytes k group) j ≡ group_at bytes j
  group_put_past j h =
      let middle = put_is bytes k 8 group refl in
      ap (λ (zs : List ℕ). group_at zs j) (sym middle)
      ∙ ap (take 8) (drop-put_mid (k * 8) 8 bytes group (j * 8) (omega arith) (omega arith) eight)

  -- the words stay as many
  pub size_put : byte_size (put bytes k group) ≡ byte_size bytes
  size_put = ap (λ (n : ℕ). min (n / 8) 4096) length_put

  -- where the group spells a word, that is the word there, and every other word is as it was
  pub word_put : (x : Word) → group_word group ≡ x → (j : ℕ) → j < byte_size bytes → group_word (group_at (put bytes k group) j) ≡ get_or (set (byte_words bytes) k x) j blank_word
  word_put x spells j h = ⊎_elim here (⊎_elim before past) (cases_order j k)
    where
      kept : j ≢ k → group_word (group_at bytes j) ≡ get_or (set (byte_words bytes) k x) j blank_word
      kept apart = sym (word_at bytes j blank_word h) ∙ sym (get_or-set_other (byte_words bytes) k j x blank_word apart)

      before : j < k → group_word (group_at (put bytes k group) j) ≡ get_or (set (byte_words bytes) k x) j blank_word
      before less = ap group_word (group_put_before j less) ∙ kept (λ e. omega arith)

      past : k < j → group_word (group_at (put bytes k group) j) ≡ get_or (set (byte_words bytes) k x) j blank_word
      past more = ap group_word (group_put_past j more) ∙ kept (λ e. omega arith)

      here : j ≡ k → group_word (group_at (put bytes k group) j) ≡ get_or (set (byte_words bytes) k x) j blank_word
      here e =
          let lt : k < length (byte_words bytes) = omega (arith, length_words bytes) in
          ap (λ (i : ℕ). group_word (group_at (put bytes k group) i)) e ∙ ap group_word group_put_same ∙ spells
          ∙ sym (get_or-set_same (byte_words bytes) k x blank_word lt)
          ∙ ap (λ (i : ℕ). get_or (set (byte_words bytes) k x) i blank_word) (sym e)

  -- so the words are the old ones with that word at its place
  pub words_put : (x : Word) → group_word group ≡ x → byte_words (put bytes k group) ≡ set (byte_words bytes) k x
  words_put x spells = ext_get_or blank_word _ _ lengths each
    where
      lengths : length (byte_words (put bytes k group)) ≡ length (set (byte_words bytes) k x)
      lengths =
          length_words (put bytes k group) ∙ size_put ∙ sym (length_words bytes) ∙ sym (length-set (byte_words bytes) k x)

      each : (j : ℕ) → j < length (byte_words (put bytes k group)) → get_or (byte_words (put bytes k group)) j blank_word ≡ get_or (set (byte_words bytes) k x) j blank_word
      each j lt =
          let below : j < byte_size (put bytes k group) = omega (arith, length_words (put bytes k group)) in
          word_at (put bytes k group) j blank_word below ∙ word_put x spells j (omega (arith, size_put))

-- a write at a place puts the word's group there and keeps every other group
pub words_after : (bytes : List ℕ) (k : ℕ) (x : Word) → x.value < 2 ^ 32 → byte_words (bytes_after bytes k x) ≡ set (byte_words bytes) k x
words_after bytes k x fits = ⊎_elim inside past (cases_lt k (byte_size bytes))
  where
    inside : k < byte_size bytes → byte_words (bytes_after bytes k x) ≡ set (byte_words bytes) k x
    inside h =
        let fit : k * 8 + 8 ≤ length bytes = omega arith in
        ap byte_words (sym (cond_below k (byte_size bytes) (put bytes k (group_bytes x)) bytes h))
        ∙ words_put bytes k (group_bytes x) fit refl x (group_back x (group_bytes x) refl fits)

    past : byte_size bytes ≤ k → byte_words (bytes_after bytes k x) ≡ set (byte_words bytes) k x
    past h =
        let long : length (byte_words bytes) ≤ k = omega (arith, length_words bytes) in
        ap byte_words (sym (cond_above k (byte_size bytes) (put bytes k (group_bytes x)) bytes bytes h refl))
        ∙ sym (set_past (byte_words bytes) k x long)

-- a write inside leaves the bytes with the word's group in the middle
pub bytes_inside : (bytes : List ℕ) (k n : ℕ) (x : Word) (group : List ℕ) → k < length (byte_words bytes) → n ≡ 8 → group ≡ group_bytes x → put_mid (k * 8) n bytes group ≡ bytes_after bytes k x
bytes_inside bytes k n x group h eight e =
    put_is bytes k n group eight ∙ ap (put bytes k) e
    ∙ cond_below k (byte_size bytes) (put bytes k (group_bytes x)) bytes (omega (arith, length_words bytes))
