-- A run that ends with a settle leaves on the page, at every place below the size, what the history says: the last store or
-- the opening word. So two such pages agree exactly where the last stores do, since a word's mark tells core and count.
-- Assumes nothing.
use Rattle.std.proofs.Common.{◌≡◌, ℕ, ◌<◌, [], ◌∷◌, Some, None, Option, sym, refl, ap, ◌∙◌, subst, arith}
use Rattle.std.proofs.lemmas.List.{append-nil}
use Rattle.call.specs.declared.call.Call.{Call}
use Rattle.call.specs.declared.call.Call.TheVariants.{Settle}
use Rattle.word.specs.Lawful.{Stores}
use Rattle.word.specs.Marks.{number, mark_at}
use Rattle.word.specs.declared.word.Word.{Word}
use Rattle.word.proofs.Marks.{marks_apart}
use Rattle.rules.specs.Histories.{ToldStore, last_store, Fresh}
use Rattle.rules.specs.Laws.{Settled, SettledPages, old_word, size}
use Rattle.rules.specs.Runs.{Ran}
use Rattle.rules.specs.State.{State, setting, page_word}
use Rattle.rules.specs.Steps.{step}
use Rattle.rules.proofs.Equal.{fresh_same}
use Rattle.rules.proofs.Fresh.{reached}
use Rattle.rules.proofs.Invariant.{Stale}
use Rattle.rules.proofs.Opening.{fits}
use Rattle.rules.proofs.Settling.{settle_frees}

-- after a last settle no word has an owner
settled_unowned : (r : Ran) → Settled r → (w : ℕ) → r.final.memory.owners w ≡ None
settled_unowned r (before, (e, split, settle)) w =
    let b = setting r.figures r.page in
    let p = reached r before (e ∷ []) split in
    let ends : (step b p.sets p.state Settle).state ≡ r.final = ap (λ (c : Call). (step b p.sets p.state c).state) (sym settle) ∙ p.chain.1.2 in
    ap (λ (s : State). s.memory.owners w) (sym ends)
    ∙ settle_frees r.figures p.moment.now (Stale r.figures p.state.ledger) p.state.memory (fits r.figures r.page r.passed).slots p.moment.good.sound w

-- what the page then holds, and that stores that it tells are lawful
pub record PageTold (r : Ran) (w : ℕ) : Type 0 where
  pub fresh : Fresh (last_store w r.history) (old_word r w) (page_word r.final.memory w)
  pub lawful : (s : ToldStore) → last_store w r.history ≡ Some s → Stores s.core s.count

pub settled_page : (r : Ran) → Settled r → (w : ℕ) → w < size r → PageTold r w
settled_page r settled w inside =
    let p = reached r r.history [] (sym (append-nil r.history)) in
    let none : p.state.memory.owners w ≡ None = ap (λ (s : State). s.memory.owners w) p.chain ∙ settled_unowned r settled w in
    let home : page_word r.final.memory w ≡ p.moment.now w = ap (λ (s : State). page_word s.memory w) (sym p.chain) ∙ p.moment.good.sound.home w none in
    record {
      fresh = subst (λ (x : Word). Fresh (last_store w r.history) (old_word r w) x) (sym home) (p.moment.told.fresh w inside);
      lawful = λ s e. (p.moment.told.lawful w s e).0;
    }

-- only the value of the opening word counts
pub fresh_alike : (o : Option ToldStore) (old other x : Word) → old.value ≡ other.value → Fresh o old x → Fresh o other x
fresh_alike None old other x e p = p ∙ (λ i. record { value = e i; mark = mark_at 0 })
fresh_alike (Some s) old other x e p = p

-- a word tells the store that wrote it
same_store : (o q : Option ToldStore) (old x : Word) → ((s : ToldStore) → o ≡ Some s → Stores s.core s.count) → ((s : ToldStore) → q ≡ Some s → Stores s.core s.count) → Fresh o old x → Fresh q old x → o ≡ q
same_store None None old x a b p q = refl
same_store None (Some s) old x a b p q =
    let some = (b s refl).1 in
    let blank : number x.mark ≡ 0 = ap (λ (k : Word). number k.mark) p in
    let marked = q.1 in
    absurd (omega arith)
same_store (Some s) None old x a b p q =
    let some = (a s refl).1 in
    let blank : number x.mark ≡ 0 = ap (λ (k : Word). number k.mark) q in
    let marked = p.1 in
    absurd (omega arith)
same_store (Some s) (Some t) old x a b p q =
    let parts = marks_apart s.core s.count t.core t.count (a s refl) (b t refl) (sym p.1 ∙ q.1) in
    λ i. Some (record { core = parts.0 i; count = parts.1 i; value = (sym p.0 ∙ q.0) i })

pub settled_pages : (r q : Ran) → SettledPages r q
settled_pages r q alike settled_r settled_q w inside = (
  (λ e. same_store (last_store w r.history) (last_store w q.history) (old_word q w) (page_word q.final.memory w) one.lawful two.lawful (subst (λ (x : Word). Fresh (last_store w r.history) (old_word q w) x) e shifted) two.fresh),
  (λ e. fresh_same (last_store w q.history) (old_word q w) (page_word r.final.memory w) (page_word q.final.memory w) (subst (λ (o : Option ToldStore). Fresh o (old_word q w) (page_word r.final.memory w)) e shifted) two.fresh),
)
  where
    one : PageTold r w
    one = settled_page r settled_r w inside

    two : PageTold q w
    two = settled_page q settled_q w (rw (sym alike.sizes) inside)

    shifted : Fresh (last_store w r.history) (old_word q w) (page_word r.final.memory w)
    shifted = fresh_alike (last_store w r.history) (old_word r w) (old_word q w) (page_word r.final.memory w) (alike.values w inside) one.fresh
