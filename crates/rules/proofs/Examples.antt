-- The ten cases, the sample job and the worked runs, each by computation. Assumes nothing.
use Rattle.std.proofs.Common.{◌≡◌, ℕ, zero, suc, ◌<◌, Bool, true, ◌&&◌, [], ◌∷◌, ◌++◌, sym, refl, ap, ◌∙◌, subst, arith}
use Rattle.std.proofs.lemmas.Bool.{and_parts}
use Rattle.sets.proofs.Sentences.{bits_puts, takes_in, clears, words_take_in, words_clear}
use Rattle.sets.specs.Rows.{bits_put, rows_taken_in, rows_cleared}
use Rattle.rules.specs.Histories.{accepted, calls_of, order_of_holders}
use Rattle.rules.specs.Laws.{Unrefused}
use Rattle.rules.specs.Runs.{Lawful, Event, History, history_of}
use Rattle.rules.specs.Signed.{bloom, played, no_bits, zero_page}
use Rattle.rules.proofs.Instance.{ran_of}
use Rattle.sets.specs.Fills.{bits_set}
use Rattle.rules.specs.Cases.{AllSay, cases, sample}
use Rattle.rules.specs.Examples.{SamplePlays, OldCopyFetched, TwoOrders, one_order, other_order, one_history, other_history}
use Rattle.rules.specs.Tables.{upd, upd2}

pub all_cases : AllSay cases
unfolding upd upd2 bits_set
all_cases =
    (refl, (refl, (refl, (refl, (refl, (refl, (refl, (refl, (refl, (refl, (refl, ((refl, refl), (refl, (refl, tt))))))))))))))

pub sample_plays : SamplePlays
unfolding upd upd2
sample_plays = refl

pub old_copy_fetched : OldCopyFetched
unfolding upd upd2
old_copy_fetched = (refl, refl)

-- ── two orders of one run ──

pub bloom_lawful : Lawful bloom
bloom_lawful =
    record {
      puts = λ s core word. bits_puts s (bits_put s core word) core word (λ d x. refl);
      takes_in = λ s core other. words_take_in s (rows_taken_in s core other) core other (takes_in s (rows_taken_in s core other) core other (λ d x. refl));
      clears = λ s core. words_clear s (rows_cleared s core) core (clears s (rows_cleared s core) core (λ d x. refl));
    }

abbrev every : (Event → Bool) → History → Bool
every p [] = true
every p (e ∷ h) = p e && every p h

unrefused : (h : History) → every accepted h ≡ true → Unrefused h
unrefused h all before e after split = go before (ap (every accepted) (sym split) ∙ all)
  where
    go : (front : History) → every accepted (front ++ (e ∷ after)) ≡ true → accepted e ≡ true
    go [] t = (and_parts (accepted e) (every accepted after) t).0
    go (x ∷ front) t = go front (and_parts (accepted x) (every accepted (front ++ (e ∷ after))) t).1

-- what holds of each number below 8
each_below_8 : (P : ℕ → Type 0) → P 0 → P 1 → P 2 → P 3 → P 4 → P 5 → P 6 → P 7 → (n : ℕ) → n < 8 → P n
each_below_8 P a b c d e f g h zero l = a
each_below_8 P a b c d e f g h (suc zero) l = b
each_below_8 P a b c d e f g h (suc (suc zero)) l = c
each_below_8 P a b c d e f g h (suc (suc (suc zero))) l = d
each_below_8 P a b c d e f g h (suc (suc (suc (suc zero)))) l = e
each_below_8 P a b c d e f g h (suc (suc (suc (suc (suc zero))))) l = f
each_below_8 P a b c d e f g h (suc (suc (suc (suc (suc (suc zero)))))) l = g
each_below_8 P a b c d e f g h (suc (suc (suc (suc (suc (suc (suc zero))))))) l = h
each_below_8 P a b c d e f g h (suc (suc (suc (suc (suc (suc (suc (suc n)))))))) l = absurd (omega arith)

one_played : history_of one_order (played sample one_order).answers ≡ one_history
unfolding upd upd2
one_played = refl

other_played : history_of other_order (played sample other_order).answers ≡ other_history
unfolding upd upd2
other_played = refl

same_calls : (c : ℕ) → c < 8 → calls_of c one_history ≡ calls_of c other_history
same_calls = each_below_8 (λ c. calls_of c one_history ≡ calls_of c other_history) refl refl refl refl refl refl refl refl

same_holders : (k : ℕ) → k < 8 → order_of_holders k one_history ≡ order_of_holders k other_history
same_holders = each_below_8 (λ k. order_of_holders k one_history ≡ order_of_holders k other_history) refl refl refl refl refl refl refl refl

pub two_orders : TwoOrders
two_orders = (
  ran_of bloom bloom_lawful sample (zero_page sample) no_bits one_order refl,
  ran_of bloom bloom_lawful sample (zero_page sample) no_bits other_order refl,
  one_played,
  other_played,
  record {
    figures = refl;
    alike = record { sizes = refl; values = λ w l. refl };
    all_accepted = subst Unrefused (sym one_played) (unrefused one_history refl);
    others_accepted = subst Unrefused (sym other_played) (unrefused other_history refl);
    calls = λ c l. ap (calls_of c) one_played ∙ (same_calls c l ∙ sym (ap (calls_of c) other_played));
    holders = λ k l. ap (order_of_holders k) one_played ∙ (same_holders k l ∙ sym (ap (order_of_holders k) other_played));
  },
)
