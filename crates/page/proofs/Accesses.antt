-- One access more at the end of a list adds its answer, on what the accesses before it made of the list, at the end of
-- the answers. Assumes nothing.
use Rattle.std.proofs.Common.{◌≡◌, ℕ, suc, ◌+◌, ◌<◌, List, [], ◌∷◌, ◌++◌, Result, length, get_or, take, drop, set, sym, refl, ap, ◌∙◌, arith}
use Rattle.std.proofs.lemmas.List.{append_assoc, length-take-le, take_more, drop_more, set_at}
use Rattle.word.specs.declared.word.Word.{Word}
use Rattle.page.specs.Plays.{reply_of, list_after, replies_of, list_after_all}
use Rattle.page.specs.declared.access.Access.{Access}
use Rattle.page.specs.declared.access.Reply.{Reply}
use Rattle.page.specs.declared.outside.Outside.{Outside}

-- each access has one answer
pub length_replies : (ws : List Word) (accesses : List Access) → length (replies_of ws accesses) ≡ length accesses
length_replies ws [] = refl
length_replies ws (a ∷ accesses) = ap suc (length_replies (list_after ws a) accesses)

-- one more access adds its answer at the end
pub replies_push : (ws : List Word) (accesses : List Access) (a : Access) → replies_of ws (accesses ++ a ∷ []) ≡ replies_of ws accesses ++ reply_of (list_after_all ws accesses) a ∷ []
replies_push ws [] a = refl
replies_push ws (b ∷ accesses) a = ap (λ (rs : List (Result Reply Outside)). reply_of ws b ∷ rs) (replies_push (list_after ws b) accesses a)

-- and works on what those before it made of the list
pub after_push : (ws : List Word) (accesses : List Access) (a : Access) → list_after_all ws (accesses ++ a ∷ []) ≡ list_after (list_after_all ws accesses) a
after_push ws [] a = refl
after_push ws (b ∷ accesses) a = after_push (list_after ws b) accesses a

module _ (ws : List Word) (accesses : List Access) (i : ℕ) (a : Access) (w : List Word) (inside : i < length accesses) (is : a ≡ get_or accesses i a) (now : w ≡ list_after_all ws (take i accesses)) where
  -- the accesses up to the next one
  next : take (i + 1) accesses ≡ take i accesses ++ a ∷ []
  next = take_more accesses i a inside ∙ ap (λ (b : Access). take i accesses ++ b ∷ []) (sym is)

  -- the list after the next access
  pub after_more : (w' : List Word) → w' ≡ list_after w a → w' ≡ list_after_all ws (take (i + 1) accesses)
  after_more w' e =
      e ∙ ap (λ (v : List Word). list_after v a) now ∙ sym (after_push ws (take i accesses) a) ∙ ap (list_after_all ws) (sym next)

  -- the answers with the next one written
  pub replies_more : (rs rs' : List (Result Reply Outside)) (r : Result Reply Outside) → i < length rs → rs' ≡ replies_of ws (take i accesses) ++ drop i rs → r ≡ reply_of w a → set rs' i r ≡ replies_of ws (take (i + 1) accesses) ++ drop (i + 1) rs
  replies_more rs rs' r room so_far e =
      ap (λ (ss : List (Result Reply Outside)). set ss i r) so_far
      ∙ ap (λ (ss : List (Result Reply Outside)). set (done ++ ss) i r) (drop_more rs i r room)
      ∙ set_at done (get_or rs i r) (drop (i + 1) rs) r i (length_replies ws (take i accesses) ∙ length-take-le i accesses (omega arith))
      ∙ sym (append_assoc done (r ∷ []) (drop (i + 1) rs))
      ∙ ap (λ (s : Result Reply Outside). (done ++ s ∷ []) ++ drop (i + 1) rs) (e ∙ ap (λ (v : List Word). reply_of v a) now)
      ∙ ap (λ (ss : List (Result Reply Outside)). ss ++ drop (i + 1) rs) (sym (replies_push ws (take i accesses) a) ∙ ap (replies_of ws) (sym next))
    where
      done : List (Result Reply Outside)
      done = replies_of ws (take i accesses)
