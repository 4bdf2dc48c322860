-- The rank of a partition by the key of its last model: those that come before are the ones with an earlier key, and those of the same key whose
-- others come before. And the partition of a rank: the last model by its key, and the others by what is left of the rank. Assumes nothing.
use mathlib.Core.Path.{◌≡◌, refl, sym, ◌∙◌, ap, ap₂, subst, subst₂}
use mathlib.Core.Bool.{true, false}
use mathlib.Core.List.{[], ◌∷◌, ◌++◌, head-eq_of_cons-eq, tail-eq_of_cons-eq}
use Prim.Native.Nat.{ℕ, zero, suc, ◌+◌, ◌-◌, ◌*◌, ◌≤◌, ◌<◌, ◌^◌}
use native.Mathlib.Nat.{min-le_right}
use native.Mathlib.Decide.{dec_lt}
use native.Mathlib.Omega.{arith}
use lib.ListN.{length, take, get_or, drop, set, length-set, length-take}
use lib.Seq.{get_or_at, get_or-take, take-take, take_at, take-suc, take-set-le, drop-cons}
use Rattle.basics.specs.Sums.{range}
use Rattle.basics.proofs.Lists.{drop-set}
use Rattle.basics.proofs.Ranges.{length-range, take_range}
use Rattle.numbers.specs.Numbers.{stirling_of}
use Rattle.numbers.proofs.Stirlings.{stirling_none, stirling_zero, stirling_grows, stirling_grows_both, stirling_all, stirling_rule, stirling_positive}
use Rattle.listings.specs.Bytes.{Bytes}
use Rattle.listings.specs.Places.{count_before, At}
use Rattle.listings.proofs.Ranks.{at_rank, rank_below, place-is_rank, edge_first}
use Rattle.set_partitions.specs.declared.edition.Edition.{Edition}
use Rattle.set_partitions.specs.declared.edition.Edition.TheVariants.{One as one}
use Rattle.set_partitions.specs.Objects.{is_set_partition, keys, set_partition_before}
use Rattle.set_partitions.specs.Listing.{others_in, block_of, set_partitions}
use Rattle.set_partitions.specs.Inner.Keys.{earlier_by, Placed}
use Rattle.set_partition_ranks.specs.Inner.Ranks.{Numbers, KeysOf, Written}
use Rattle.set_partitions.proofs.Facts.{keys-long, partition_ends, keys-put_on, take_off}
use Rattle.set_partitions.proofs.Theorem.{counted, lists}
use Rattle.set_partitions.proofs.Places.{at_key, having-is, each_alone_lem}

-- how many come before x
abbrev pub rank_of : Edition → ℕ → ℕ → Bytes → ℕ
rank_of e n k x = count_before (set_partition_before e) x (set_partitions e n k)

-- r is the rank of the partition of n models whose keys these are
abbrev pub RankBy : Edition → ℕ → ℕ → Bytes → ℕ → Type 0
RankBy e n k ks r = (x : Bytes) → is_set_partition n k x ≡ true → take n ks ≡ keys 0 x → r ≡ rank_of e n k x

-- the key of the last of n models
abbrev last_of : ℕ → Bytes → ℕ
last_of n ks = get_or ks (n - 1) 0

rank_within : (e : Edition) (n k : ℕ) (x : Bytes) → is_set_partition n k x ≡ true → rank_of e n k x < stirling_of n k
rank_within e n k x o = omega (arith, rank_below (lists e n k) x o, counted e n k)

-- where there is a rank, there are no more blocks than models, and some where there are fewer

pub few_where_some : (n k r : ℕ) → r < stirling_of n k → k ≤ n
few_where_some n k r h = elim (dec_lt n k) [ yes g ↦ absurd (omega (arith, stirling_none n k g)) | no g ↦ omega arith ]

pub few_blocks : (n k : ℕ) (x : Bytes) → is_set_partition n k x ≡ true → k ≤ n
few_blocks n k x o = few_where_some n k (rank_of one n k x) (rank_within one n k x o)

pub block_where_some : (n k r : ℕ) → k < n → r < stirling_of n k → 1 ≤ k
block_where_some n zero r few h = absurd (omega (arith, stirling_zero n few))
block_where_some n (suc k) r few h = omega arith

-- with as many blocks as models the one rank is 0
pub none_before : (n k r : ℕ) → n ≤ k → r < stirling_of n k → (n ≡ k) × (0 ≡ r)
none_before n k r h below =
    let same : n ≡ k = omega (arith, few_where_some n k r below) in
    (same, omega (arith, ap (stirling_of n) same, stirling_all n))

-- one model more, of a key

others_fewer : (n k c : ℕ) → stirling_of n (others_in k c) ≤ stirling_of (suc n) (suc k)
unfolding others_in
others_fewer n k zero = stirling_grows_both n k
others_fewer n k (suc b) = stirling_grows n k

pub others_within : (n k c : ℕ) → 1 ≤ k → k < n → stirling_of (n - 1) (others_in (k - 1) c) ≤ stirling_of n k
others_within n k c some fewer =
    subst₂ (λ n' k'. stirling_of (n - 1) (others_in (k - 1) c) ≤ stirling_of n' k') (omega arith) (omega arith) (others_fewer (n - 1) (k - 1) c)

-- x is the partition of n models in k blocks whose keys these are, c the key of its last model, and this the rest of it: m is n - 1, and j is k - 1
record Ending (e : Edition) (m j n k c : ℕ) (ks x : Bytes) : Type 0 where
  upto : c ≤ k
  others : KeysOf m (others_in j c) (take m ks)
  rank : rank_of e n k x ≡ earlier_by e k c (stirling_of m j) (stirling_of m k) + rank_of e m (others_in j c) others.object

ending : (e : Edition) (m j : ℕ) (ks : Bytes) (f : KeysOf (suc m) (suc j) (take (suc m) ks)) → Ending e m j (suc m) (suc j) (get_or ks m 0) ks f.object
ending e m j ks f =
    let p = partition_ends m (suc j) f.object f.parted in
    let t = take_off m j p.block p.front (subst (λ z. is_set_partition (suc m) (suc j) z ≡ true) p.whole f.parted) in
    let whole : f.object ≡ p.front ++ (block_of j t.key ∷ []) = p.whole ∙ ap (λ b. p.front ++ (b ∷ [])) t.block in
    let all : take (suc m) ks ≡ keys 0 p.front ++ (t.key ∷ []) = f.same ∙ ap (keys 0) whole ∙ keys-put_on m j t.key p.front t.small t.front in
    let size : length (keys 0 p.front) ≡ m = keys-long m (others_in j t.key) p.front t.front in
    let key : get_or ks m 0 ≡ t.key = sym (get_or-take (suc m) ks m 0 (omega arith)) ∙ ap (λ z. get_or z m 0) all ∙ get_or_at (keys 0 p.front) t.key [] 0 m size in
    let at = at_key e m j t.key _ t.small (at_rank (lists e m (others_in j t.key)) p.front t.front) in
    subst (λ c. Ending e m j (suc m) (suc j) c ks f.object) (sym key) record {
      upto = t.small;
      others = record {
        object = p.front;
        parted = t.front;
        same = sym (take-take m (suc m) ks (omega arith)) ∙ ap (take m) all ∙ take_at (keys 0 p.front) (t.key ∷ []) m size;
      };
      rank = ap (rank_of e (suc m) (suc j)) whole ∙ place-is_rank (lists e (suc m) (suc j)) _ at;
    }

-- the others are reached, in i blocks at a place, as those of a last model alone and of one in a block are
pub others_reached : (P : ℕ → ℕ → Type 0) (k c : ℕ) {a j at i : ℕ} → 1 ≤ k → P a (k - 1) → P j k → (c ≡ 0 → at ≡ a) → (0 < c → at ≡ j) → i ≡ others_in (k - 1) c → P at i
unfolding others_in
others_reached P k zero some alone joined here there o = rw (o, here refl) alone
others_reached P k (suc b) some alone joined here there o = let up : suc (k - 1) ≡ k = omega arith in rw (o, there (omega arith), up) joined

-- what is asked of a rank by keys, where there are fewer blocks than models
pub record Asked (n k : ℕ) (ks : Bytes) : Type 0 where
  pub fewer : k < n
  pub keyed : KeysOf n k (take n ks)
  pub fits : stirling_of n k < 2 ^ 64

module _ (e : Edition) {n k : ℕ} {ks : Bytes} (q : Asked n k ks) where
  below : rank_of e n k q.keyed.object < stirling_of n k
  below = rank_within e n k q.keyed.object q.keyed.parted

  pub some_block : 1 ≤ k
  some_block = block_where_some n k _ q.fewer below

  ends : (f : KeysOf n k (take n ks)) → Ending e (n - 1) (k - 1) n k (last_of n ks) ks f.object
  ends = subst₂ (λ n' k'. (f : KeysOf n' k' (take n' ks)) → Ending e (n - 1) (k - 1) n' k' (last_of n ks) ks f.object) (omega (arith, q.fewer)) (omega (arith, some_block)) (ending e (n - 1) (k - 1) ks)

  pub rank_fits : {r : ℕ} → RankBy e n k ks r → r < 2 ^ 64
  rank_fits h = omega (arith, h q.keyed.object q.keyed.parted q.keyed.same, below, q.fits)

  -- by the two numbers

  earlier-is : {a b : ℕ} → Numbers n k a b → earlier_by e k (last_of n ks) a b ≡ earlier_by e k (last_of n ks) (stirling_of (n - 1) (k - 1)) (stirling_of (n - 1) k)
  earlier-is d = ap₂ (earlier_by e k (last_of n ks)) d.0 d.1

  pub before-fits : {a b : ℕ} → Numbers n k a b → earlier_by e k (last_of n ks) a b < 2 ^ 64
  before-fits d = omega (arith, earlier-is d, (ends q.keyed).rank, below, q.fits)

  -- by the others, in i blocks

  module _ {i : ℕ} (o : i ≡ others_in (k - 1) (last_of n ks)) where
    pub others_keyed : KeysOf (n - 1) i (take (n - 1) ks)
    others_keyed = rw o (ends q.keyed).others

    pub summed : {a b s r : ℕ} → Numbers n k a b → s ≡ earlier_by e k (last_of n ks) a b → RankBy e (n - 1) i ks r → RankBy e n k ks (s + r)
    summed {r} d t h x part same =
        let p = ends record { object = x; parted = part; same = same } in
        let rest = subst (λ i'. RankBy e (n - 1) i' ks r) o h p.others.object p.others.parted p.others.same in
        omega (arith, t, earlier-is d, rest, p.rank)

pub no_other : (e : Edition) (n k : ℕ) (ks : Bytes) → n ≤ k → RankBy e n k ks 0
no_other e n k ks h x o same = (none_before n k (rank_of e n k x) h (rank_within e n k x o)).1

-- the partition of a rank

places-there : (n : ℕ) (x : Bytes) → length (take n x) ≡ n → n ≤ length x
places-there n x e = omega (arith, length-take n x, min-le_right n (length x))

-- a last place was set, and then the places in front of it were written
front_written : (e : Edition) (m v s i : ℕ) (x y : Bytes) → m < length x → Written e s m i (set x m v) y → (take (suc m) y ≡ take m y ++ (v ∷ [])) × (drop (suc m) y ≡ drop (suc m) x)
front_written e m v s i x y room w =
    let h : m < length y = omega (arith, w.size, length-set x m v) in
    let rest : get_or y m 0 ∷ drop (suc m) y ≡ v ∷ drop (suc m) x = sym (drop-cons y m 0 h) ∙ w.kept ∙ drop-set x m v room in
    (take-suc y m 0 h ∙ ap (λ b. take m y ++ (b ∷ [])) (head-eq_of_cons-eq rest), tail-eq_of_cons-eq rest)

-- the partition of rank r of n models in k blocks, to be written to x, has the key c, and its others are that of rank s: m is n - 1, and j is k - 1
pub record Put (e : Edition) (m j n k r : ℕ) (x : Bytes) (c s : ℕ) : Type 0 where
  pub upto : c ≤ k
  below : s < stirling_of m (others_in j c)
  pub alone : (v : ℕ) → take m (set x m v) ≡ range 1 m
  all : (y : Bytes) → Written e s m (others_in j c) (set x m (block_of j c)) y → Written e r n k x y

put : (e : Edition) (m j r c s : ℕ) (x : Bytes) → take (suc m) x ≡ range 1 (suc m) → Placed e (suc j) r (stirling_of m j) (stirling_of m (suc j)) c s → Put e m j (suc m) (suc j) r x c s
put e m j r c s x alone p =
    let room : suc m ≤ length x = places-there (suc m) x (ap length alone ∙ length-range 1 (suc m)) in
    record {
      upto = p.upto;
      below = omega (arith, p.within, having-is m j c);
      alone = λ v. take-set-le m x m v (omega arith) ∙ sym (take-take m (suc m) x (omega arith)) ∙ ap (take m) alone ∙ take_range 1 (suc m) m (omega arith);
      all = λ y w.
          let (front, rest) = front_written e m (block_of j c) s (others_in j c) x y room w in
          record {
            there = subst₂ (At (set_partitions e (suc m) (suc j))) (sym front) p.whole (at_key e m j c s p.upto w.there);
            size = w.size ∙ length-set x m (block_of j c);
            kept = rest;
          };
    }

-- what is asked of writing, where there are fewer blocks than models
pub record ToWrite (n k r : ℕ) (x : Bytes) : Type 0 where
  pub fewer : k < n
  pub below : r < stirling_of n k
  pub fits : stirling_of n k < 2 ^ 64
  pub alone : take n x ≡ range 1 n

module _ {n k r : ℕ} {x : Bytes} (q : ToWrite n k r x) where
  pub block_there : 1 ≤ k
  block_there = block_where_some n k r q.fewer q.below

  module _ {a b : ℕ} (d : Numbers n k a b) where
    pub joined-there : 0 < b
    joined-there = omega (arith, d.1, stirling_positive (n - 1) k block_there (omega (arith, q.fewer)))

    -- the two numbers make up all
    pub all_there : a + k * b ≡ stirling_of n k
    all_there =
        subst₂ (λ a' b'. a' + k * b' ≡ stirling_of n k) (sym d.0) (sym d.1)
        (subst₂ (λ n' k'. stirling_of (n - 1) (k - 1) + k' * stirling_of (n - 1) k' ≡ stirling_of n' k') (omega (arith, q.fewer)) (omega (arith, block_there)) (sym (stirling_rule (n - 1) (k - 1))))

    pub last-put : {e : Edition} {c s : ℕ} → Placed e k r a b c s → Put e (n - 1) (k - 1) n k r x c s
    last-put {e} {c} {s} p =
        subst₂ (λ n' k'. take n' x ≡ range 1 n' → Placed e k' r (stirling_of (n - 1) (k - 1)) (stirling_of (n - 1) k') c s → Put e (n - 1) (k - 1) n' k' r x c s)
        (omega (arith, q.fewer))
        (omega (arith, block_there))
        (put e (n - 1) (k - 1) r c s x)
        q.alone
        (subst₂ (λ a' b'. Placed e k r a' b' c s) d.0 d.1 p)

-- the others, in i blocks
module _ {e : Edition} {m j n k r c s i : ℕ} {x : Bytes} (p : Put e m j n k r x c s) (o : i ≡ others_in j c) where
  pub rest_below : s < stirling_of m i
  rest_below = rw o p.below

  pub written : {v : ℕ} {y : Bytes} → v ≡ block_of j c → Written e s m i (set x m v) y → Written e r n k x y
  written {y} l w = p.all y (subst₂ (λ i' v'. Written e s m i' (set x m v') y) o l w)

-- with as many blocks as models, each is alone
pub alone_written : (e : Edition) (n k r : ℕ) (x : Bytes) → n ≤ k → r < stirling_of n k → take n x ≡ range 1 n → Written e r n k x x
alone_written e n k r x h below q =
    let (same, none) = none_before n k r h below in
    record { there = rw q (subst₂ (λ j s. At (set_partitions e n j) (range 1 n) s) same none (edge_first (each_alone_lem e false n))); size = refl; kept = refl }
