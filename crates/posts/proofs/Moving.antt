-- The turns of the loops that change a ranking, and of those that move places up.
use mathlib.Core.Path.{◌≡◌, refl, sym, ◌∙◌, ap, ap₂, subst}
use mathlib.Core.Bool.{Bool, false, not, cond}
use mathlib.Core.List.{List, ◌++◌}
use mathlib.Core.Logic.{⊎_elim}
use Rattle.measures.proofs.Tests.{le_or_lt}
use Prim.Native.Nat.{ℕ, suc, ◌+◌, ◌*◌, ◌-◌, ◌≤◌, ◌<◌}
use native.Mathlib.Omega.{arith}
use lib.Dec.{ltb}
use lib.ListN.{length, take, drop, get_or, set, length-drop}
use Rattle.std.specs.List.{copy_within}
use Rattle.std.proofs.lemmas.List.{get_or-append_right, get_or-drop}
use native.Mathlib.Numerals.{add-one}
use lib.Seq.{get_or-take, length-take-le, paste, take-paste, length-paste}
use borrow.Author.Tests.{lt-ltb}
use Rattle.measures.specs.Lists.{All}
use Rattle.measures.specs.Limits.{most_posts}
use Rattle.measures.specs.declared.Minutes.{Minutes}
use Rattle.posts.specs.declared.Post.{Post}
use Rattle.posts.specs.declared.YearPosts.{YearPosts}
use Rattle.posts.specs.Posts.{h, w, contracted_minutes, weighted_parts, whole_time}
use Rattle.posts.specs.Limits.{longest_week}
use Rattle.posts.specs.Refusals.{Stands, post_refusal}
use Rattle.posts.specs.Rates.{ranked_before, minutes_ahead}
use Rattle.posts.specs.Changes.{without}
use Rattle.posts.specs.Year.{no_post, no_minutes, minutes_before, whole_times, RankedBy, posts_of, Held, joined_by, raised_by, lowered_by, WithoutPlace}
use Rattle.posts.proofs.Ranks.{other_way, raised_length, raised_at, raised_past, lowered_length, lowered_at, lowered_past, lowered_fits, without_length, without_before, without_after, minutes_without, weighted_without, wholes_without, all_without, ranked_without, moved_up}
use Rattle.posts.proofs.Standing.{posts_count, place_stands, joined_is}
use Rattle.posts.proofs.Turns.{ahead_turn, ahead_none, front, past, at_place, write_turn, write_all}

-- the first place that is not yet written holds what it held
next_held : {A : Type 0} (s d : List A) (i : ℕ) (z : A) → i ≤ length s → get_or (take i s ++ drop i d) i z ≡ get_or d i z
next_held s d i z g =
    get_or-append_right (take i s) (drop i d) i i z (length-take-le i s g) (omega arith)
    ∙ get_or-drop i d (i - i) z ∙ ap (λ (k : ℕ). get_or d k z) (let e : i + (i - i) ≡ i = omega arith in e)

-- a year with another ranking
abbrev with_ranking : YearPosts → List Minutes → YearPosts
with_ranking y rs = record { list = y.list; ranking = rs; count = y.count; minutes = y.minutes; weighted = y.weighted; wholes = y.wholes }

-- ---- a post joins: i posts are compared with it, and the year is as it is then

pub record Entering (y : YearPosts) (x : Post) (now : YearPosts) (before i : ℕ) : Type 0 where
  pub year : now ≡ with_ranking y now.ranking
  pub within : i ≤ y.count
  pub most : before ≤ longest_week * i
  pub ranking : now.ranking ≡ take i (raised_by x y.ranking (posts_of y)) ++ drop i y.ranking
  pub ahead : before + minutes_ahead x (y.count - i) (drop i (posts_of y)) ≡ minutes_ahead x y.count (posts_of y)

module _ (y : YearPosts) (x : Post) (held : Held y) where
  abbrev s : List Minutes
  s = raised_by x y.ranking (posts_of y)

  count : length (posts_of y) ≡ y.count
  count = posts_count y held

  -- the next post and its minutes are what they were
  entering_post : (now : YearPosts) (before i : ℕ) → Entering y x now before i → get_or now.list i no_post ≡ get_or y.list i no_post
  entering_post now before i e = ap (λ (n : YearPosts). get_or n.list i no_post) e.year

  pub entering_stands : (now : YearPosts) (before i : ℕ) → Entering y x now before i → i < y.count → Stands (get_or now.list i no_post)
  entering_stands now before i e g = subst Stands (sym (entering_post now before i e)) (place_stands y held i g)

  pub entering_minutes : (now : YearPosts) (before i : ℕ) → Entering y x now before i → minutes_before now i ≡ minutes_before y i
  entering_minutes now before i e =
      ap (λ (rs : List Minutes). (get_or rs i no_minutes).0) e.ranking
      ∙ ap (λ (m : Minutes). m.0) (next_held s y.ranking i no_minutes (omega (arith, e.within, raised_length x y.ranking (posts_of y), held.places, held.few)))

  pub entering_turn : (now : YearPosts) (before i k b : ℕ) (higher : Bool) → Entering y x now before i → i < y.count
      → higher ≡ ranked_before (get_or now.list i no_post) false x
      → k ≡ cond higher (h x) 0
      → b ≡ cond (not higher) (h (get_or now.list i no_post)) 0 → b ≤ longest_week
      → Entering y x (with_ranking now (set now.ranking i (record { 0 = minutes_before now i + k }))) (before + b) (i + 1)
  entering_turn now before i k b higher e g t ev eb few =
      record {
        year = ap (λ (n : YearPosts). with_ranking n (set now.ranking i (record { 0 = minutes_before now i + k }))) e.year;
        within = omega arith;
        most = omega (arith, e.most);
        ranking =
            ap (λ (z : List Minutes). set z i (record { 0 = minutes_before now i + k })) e.ranking
            ∙ ap (λ (m : Minutes). set (take i s ++ drop i y.ranking) i m) value
            ∙ write_turn no_minutes s y.ranking i (omega (arith, raised_length x y.ranking (posts_of y), held.places, held.few)) (omega (arith, held.places, held.few));
        ahead =
            omega (
              arith,
              e.ahead,
              ap (minutes_ahead x (y.count - i)) (front y held i g),
              ahead_turn x z y.count i (drop (i + 1) (posts_of y)),
              ap (λ (k : Bool). cond (ranked_before x k z) (h z) 0) (lt-ltb i y.count g),
              ap (λ (k : Bool). cond k (h z) 0) (other_way x z),
              eb ∙ ap (λ (q : Post). cond (not higher) (h q) 0) post ∙ ap (λ (k : Bool). cond (not k) (h z) 0) ranked,
            );
      }
    where
      z : Post
      z = get_or y.list i no_post

      post : get_or now.list i no_post ≡ z
      post = entering_post now before i e

      ranked : higher ≡ ranked_before z false x
      ranked = t ∙ ap (λ (q : Post). ranked_before q false x) post

      value : record { 0 = minutes_before now i + k } ≡ get_or s i no_minutes
      value =
          ap₂ (λ (m n : ℕ). record { 0 = m + n }) (entering_minutes now before i e) (ev ∙ ap (λ (k : Bool). cond k (h x) 0) (ranked ∙ ap (λ (q : Post). ranked_before q false x) (sym (at_place y held i g))))
          ∙ sym (raised_at x y.ranking (posts_of y) i (omega (arith, count)) (omega (arith, count, held.places, held.few)))

  pub entering_end : (now : YearPosts) (before i : ℕ) → Entering y x now before i → y.count ≤ i → (now ≡ with_ranking y s) × (before ≡ minutes_ahead x y.count (posts_of y))
  entering_end now before i e g = (
    e.year ∙ ap (with_ranking y) (e.ranking ∙ ap (λ (k : ℕ). take k s ++ drop k y.ranking) here ∙ write_all s y.ranking (length (posts_of y)) (raised_past x y.ranking (posts_of y))),
    omega (arith, e.ahead, ap (minutes_ahead x (y.count - i)) (past y held i g), ahead_none x (y.count - i)),
  )
    where
      here : i ≡ length (posts_of y)
      here = omega (arith, e.within, count)

  -- the year as the code makes it once all are compared
  pub entered : (accepted : post_refusal (posts_of y) x ≡ 0) (now : YearPosts) (before i k m : ℕ) → Entering y x now before i → y.count ≤ i → k ≡ w x * h x → m ≡ cond (whole_time x) 1 0
      → ◌≡◌ {A = YearPosts} (record { list = set now.list y.count x; ranking = set now.ranking y.count (record { 0 = before }); count = y.count + 1; minutes = record { 0 = now.minutes.0 + h x }; weighted = now.weighted + k; wholes = now.wholes + m }) (joined_by y x)
  entered accepted now before i k m e g f t =
      let d = entering_end now before i e g in
      rw d.0 (joined_is y x held accepted _ _ _ _ refl d.1 f t)

-- ---- a post is about to leave: i posts are compared with it

pub record Leaving (y : YearPosts) (at : ℕ) (rs : List Minutes) (i : ℕ) : Type 0 where
  pub within : i ≤ y.count
  pub ranking : rs ≡ take i (lowered_by (get_or y.list at no_post) at y.ranking (posts_of y)) ++ drop i y.ranking

module _ (y : YearPosts) (at : ℕ) (held : Held y) (inside : at < y.count) where
  abbrev x : Post
  x = get_or y.list at no_post

  abbrev low : List Minutes
  low = lowered_by x at y.ranking (posts_of y)

  count' : length (posts_of y) ≡ y.count
  count' = posts_count y held

  -- the minutes of the next post are what they were
  leaving_minutes : (rs : List Minutes) (i : ℕ) → Leaving y at rs i → i < y.count → get_or rs i no_minutes ≡ get_or y.ranking i no_minutes
  leaving_minutes rs i e g =
      ap (λ (l : List Minutes). get_or l i no_minutes) e.ranking
      ∙ next_held low y.ranking i no_minutes (omega (arith, lowered_length 0 x at y.ranking (posts_of y), held.places, held.few))

  -- what is taken from the minutes before a post is among them
  pub leaving_fits : (rs : List Minutes) (i k : ℕ) (behind : Bool) → Leaving y at rs i → i < y.count
      → behind ≡ ranked_before (get_or y.list i no_post) (ltb at i) x → k ≡ cond behind (h x) 0 → k ≤ (get_or rs i no_minutes).0
  leaving_fits rs i k behind e g t ek =
      rw (ek, t, leaving_minutes rs i e g, held.ranked i (omega (arith, count')), ← at_place y held i g, ← at_place y held at inside)
      (lowered_fits (posts_of y) at i (omega (arith, count')) (omega (arith, count')))

  pub leaving_turn : (rs : List Minutes) (i k : ℕ) (behind : Bool) → Leaving y at rs i → i < y.count
      → behind ≡ ranked_before (get_or y.list i no_post) (ltb at i) x → k ≡ cond behind (h x) 0
      → Leaving y at (set rs i (record { 0 = (get_or rs i no_minutes).0 - k })) (i + 1)
  leaving_turn rs i k behind e g t ek =
      record {
        within = omega arith;
        ranking =
            ap (λ (z : List Minutes). set z i (record { 0 = (get_or rs i no_minutes).0 - k })) e.ranking
            ∙ ap (λ (m : Minutes). set (take i low ++ drop i y.ranking) i m) value
            ∙ write_turn no_minutes low y.ranking i (omega (arith, lowered_length 0 x at y.ranking (posts_of y), held.places, held.few)) (omega (arith, held.places, held.few));
      }
    where
      value : record { 0 = (get_or rs i no_minutes).0 - k } ≡ get_or low i no_minutes
      value =
          ap₂ (λ (m : Minutes) (n : ℕ). record { 0 = m.0 - n }) (leaving_minutes rs i e g)
          (ek ∙ ap (λ (b : Bool). cond b (h x) 0) (t ∙ ap (λ (q : Post). ranked_before q (ltb at i) x) (sym (at_place y held i g))))
          ∙ sym (lowered_at x at y.ranking (posts_of y) i (omega (arith, count')) (omega (arith, count', held.places, held.few)))

  pub leaving_end : (rs : List Minutes) (i : ℕ) → Leaving y at rs i → y.count ≤ i → rs ≡ low
  leaving_end rs i e g =
      e.ranking ∙ ap (λ (k : ℕ). take k low ++ drop k y.ranking) here ∙ write_all low y.ranking (length (posts_of y)) (lowered_past 0 x at y.ranking (posts_of y))
    where
      here : i ≡ length (posts_of y)
      here = omega (arith, e.within, count')

-- ---- places moved up: those from `at` on, before the n, hold what the next one held

moved_is : {A : Type 0} (list : List A) (at n : ℕ) → at < n → n ≤ length list → length list ≡ most_posts → WithoutPlace list at n (copy_within list (at + 1) n at)
moved_is list at n inside few room =
    rw add-one (
      length-paste list at (drop (suc at) list) (n - suc at) (omega arith) (omega (arith, length-drop (suc at) list)) ∙ room,
      ap (λ (k : ℕ). take k (paste list at (drop (suc at) list) (n - suc at))) (let e : n - 1 ≡ at + (n - suc at) = omega arith in e)
          ∙ take-paste list at (drop (suc at) list) (n - suc at) (omega arith) (omega (arith, length-drop (suc at) list))
          ∙ sym (moved_up at n list inside few),
    )

-- ---- the year that a post has left

without_take : {A : Type 0} (at n : ℕ) (l : List A) (z : A) (i : ℕ) → i + 1 < n → get_or (without at (take n l)) i z ≡ get_or (without at l) i z
without_take at n l z i g =
    ⊎_elim
    (λ (a : at ≤ i). without_after at i (take n l) z a ∙ get_or-take n l (suc i) z (omega arith) ∙ sym (without_after at i l z a))
    (λ (a : i < at). without_before at i (take n l) z a ∙ get_or-take n l i z (omega arith) ∙ sym (without_before at i l z a))
    (le_or_lt at i)

module _ (y : YearPosts) (at : ℕ) (held : Held y) (inside : at < y.count) where
  abbrev leaver : Post
  leaver = get_or y.list at no_post

  -- the year with these places, from which k and m of its numbers are taken
  abbrev without_year : List Post → List Minutes → ℕ → ℕ → YearPosts
  without_year list ranks k m =
      record { list = list; ranking = ranks; count = y.count - 1; minutes = record { 0 = y.minutes.0 - h leaver }; weighted = y.weighted - k; wholes = y.wholes - m }

  many : length (posts_of y) ≡ y.count
  many = posts_count y held

  there : get_or (posts_of y) at no_post ≡ leaver
  there = at_place y held at inside

  pub leaver_minutes : y.minutes.0 ≡ contracted_minutes (without at (posts_of y)) + h leaver
  leaver_minutes = held.minutes ∙ minutes_without at (posts_of y) (omega (arith, many)) ∙ ap (λ (x : Post). contracted_minutes (without at (posts_of y)) + h x) there

  pub leaver_weighted : y.weighted ≡ weighted_parts (without at (posts_of y)) + w leaver * h leaver
  leaver_weighted = held.weighted ∙ weighted_without at (posts_of y) (omega (arith, many)) ∙ ap (λ (x : Post). weighted_parts (without at (posts_of y)) + w x * h x) there

  pub leaver_wholes : y.wholes ≡ whole_times (without at (posts_of y)) + cond (whole_time leaver) 1 0
  leaver_wholes = held.wholes ∙ wholes_without at (posts_of y) (omega (arith, many)) ∙ ap (λ (x : Post). whole_times (without at (posts_of y)) + cond (whole_time x) 1 0) there

  -- the places of the posts and of their ranking once they have moved up
  pub posts_moved : WithoutPlace y.list at y.count (copy_within y.list (at + 1) y.count at)
  posts_moved = moved_is y.list at y.count inside (omega (arith, held.room, held.few)) held.room

  pub ranks_moved : WithoutPlace (lowered_by leaver at y.ranking (posts_of y)) at y.count (copy_within (lowered_by leaver at y.ranking (posts_of y)) (at + 1) y.count at)
  ranks_moved =
      let long = lowered_length 0 leaver at y.ranking (posts_of y) in
      moved_is (lowered_by leaver at y.ranking (posts_of y)) at y.count inside (omega (arith, long, held.places, held.few)) (long ∙ held.places)

  -- every field of the year without it
  module _ (r : YearPosts)
      (count : r.count ≡ y.count - 1)
      (posts : WithoutPlace y.list at y.count r.list)
      (ranks : WithoutPlace (lowered_by leaver at y.ranking (posts_of y)) at y.count r.ranking)
      (minutes : r.minutes.0 ≡ y.minutes.0 - h leaver)
      (weights : r.weighted ≡ y.weighted - w leaver * h leaver)
      (wholes : r.wholes ≡ y.wholes - cond (whole_time leaver) 1 0) where
    pub left_posts : posts_of r ≡ without at (posts_of y)
    left_posts = ap (λ (n : ℕ). take n r.list) count ∙ posts.1

    ranked_left : RankedBy r.ranking (without at (posts_of y))
    ranked_left i g =
        ap (λ (m : Minutes). m.0)
        (sym (get_or-take (y.count - 1) r.ranking i no_minutes (omega (arith, long, many)))
        ∙ ap (λ (l : List Minutes). get_or l i no_minutes) ranks.1
        ∙ without_take at y.count (lowered_by leaver at y.ranking (posts_of y)) no_minutes i (omega (arith, long, many)))
        ∙ subst (λ (x : Post). RankedBy (without at (lowered_by x at y.ranking (posts_of y))) (without at (posts_of y))) there
        (ranked_without y.ranking (posts_of y) at (omega (arith, many)) (omega (arith, many, held.places, held.few)) held.ranked) i g
      where
        long : length (posts_of y) ≡ suc (length (without at (posts_of y)))
        long = without_length at (posts_of y) (omega (arith, many))

    pub left_held : Held r
    left_held =
        record {
          room = posts.0;
          places = ranks.0;
          few = omega (arith, count, held.few);
          minutes = subst (λ (l : List Post). r.minutes.0 ≡ contracted_minutes l) (sym left_posts) (omega (arith, minutes, leaver_minutes));
          weighted = subst (λ (l : List Post). r.weighted ≡ weighted_parts l) (sym left_posts) (omega (arith, weights, leaver_weighted));
          wholes = subst (λ (l : List Post). r.wholes ≡ whole_times l) (sym left_posts) (omega (arith, wholes, leaver_wholes));
          ranked = subst (RankedBy r.ranking) (sym left_posts) ranked_left;
          stand = subst (All Stands) (sym left_posts) (all_without Stands at (posts_of y) held.stand);
        }

  -- as the code makes it: the places of its ranking, lowered, have moved up as those of its posts have
  pub taken_out : (z : YearPosts) → y ≡ z → (rs ranks : List Minutes) (list : List Post) (k m : ℕ)
      → rs ≡ lowered_by (get_or z.list at no_post) at z.ranking (posts_of z)
      → list ≡ copy_within y.list (at + 1) y.count at → ranks ≡ copy_within rs (at + 1) y.count at
      → k ≡ w leaver * h leaver → m ≡ cond (whole_time leaver) 1 0
      → Held (without_year list ranks k m) × (posts_of (without_year list ranks k m) ≡ without at (posts_of y))
  taken_out z same rs ranks list k m e p q f t =
      let lowered = subst (λ (z : YearPosts). rs ≡ lowered_by (get_or z.list at no_post) at z.ranking (posts_of z)) (sym same) e in
      let posts : WithoutPlace y.list at y.count list = rw p posts_moved in
      let places : WithoutPlace (lowered_by leaver at y.ranking (posts_of y)) at y.count ranks = rw (q, lowered) ranks_moved in
      let weights = ap (λ (n : ℕ). y.weighted - n) f in
      let wholes = ap (λ (n : ℕ). y.wholes - n) t in
      (left_held _ refl posts places refl weights wholes, left_posts _ refl posts places refl weights wholes)
