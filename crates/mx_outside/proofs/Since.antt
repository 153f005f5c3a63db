-- The images that a crash may leave are those that are told from what happened since the last sync.
use Rattle.std.proofs.Common.{◌≡◌, ℕ, ◌+◌, ◌-◌, ◌<◌, ◌≤◌, min, max, List, [], ◌∷◌, length, take, drop, get_or, refl, ap}
use Rattle.std.proofs.Common.{sym, subst, ◌∙◌, ◌⊎◌, inl, inr, arith, ext_get_or}
use Rattle.std.specs.Prelude.{slice_index}
use Rattle.std.proofs.lemmas.List.{length-take, length-drop, get_or-take, get_or-drop}
use Rattle.std.proofs.lemmas.Bool.{cases_lt}
use Rattle.mx_outside.specs.Disk.{put_at, Torn, Shortened}
use Rattle.mx_outside.specs.Changes.{Change, content_of, AreChanges, MayLeave}
use Rattle.mx_outside.specs.Changes.Change.{written, cut_to, synced}
use Rattle.mx_outside.specs.Since.{Since, since_now, since_sync, IsUntouched, IsImage, LeavesImages}
use Rattle.mx_outside.proofs.Torn.{length-put_at, take-put_at, drop-put_at_more, index-put_at_before, index-put_at_in}
use Rattle.mx_outside.proofs.Torn.{index-put_at_after, torn_take, shortened_same}

-- Two lists whose parts from a place on are the same have the same byte there.
same_behind : (n : ℕ) (old new : List ℕ) (place : ℕ) → drop n new ≡ drop n old → n ≤ place
    → slice_index new place ≡ slice_index old place
same_behind n old new place same past =
    let more : ℕ = place - n in
    let is : n + more ≡ place = omega arith in
    let at_new = get_or-drop n new more 0 in
    let at_old = get_or-drop n old more 0 in
    subst (λ (k : ℕ). get_or new k 0 ≡ get_or old k 0) is
    (sym at_new ∙ ap (λ (rest : List ℕ). get_or rest more 0) same ∙ at_old)

-- Two lists whose fronts are the same have the same bytes there.
same_before : (n : ℕ) (old new : List ℕ) (place : ℕ) → take n new ≡ take n old → place < n
    → slice_index new place ≡ slice_index old place
same_before n old new place same below =
    sym (get_or-take n new place 0 below) ∙ ap (λ (front : List ℕ). get_or front place 0) same
    ∙ get_or-take n old place 0 below

-- A torn write leaves a byte outside its range as it was.
outside : (at n : ℕ) (old new : List ℕ) → Torn at n old new → (place : ℕ) → (place < at) ⊎ (at + n ≤ place)
    → slice_index new place ≡ slice_index old place
outside at n old new torn place (inl ahead) = same_before at old new place torn.before ahead
outside at n old new torn place (inr behind) = same_behind (at + n) old new place torn.after behind

-- Just after a sync the content alone is left.
image_now : (content image : List ℕ) → image ≡ content → IsImage (since_now content) image
image_now content image is =
    subst (λ (c : List ℕ). IsImage (since_now content) c) (sym is)
    (record { no_shorter = omega arith; no_longer = omega arith; same = λ _ _ _. refl })

-- And nothing else.
now_image : (content image : List ℕ) → IsImage (since_now content) image → image ≡ content
now_image content image is =
    let long : length image ≡ length content = omega arith in
    ext_get_or 0 image content long (λ k below. is.same k (omega arith) tt)

-- Each image that may be left is such an image.
pub image_from_left : (changes : List Change) (first image : List ℕ) → MayLeave changes first image
    → IsImage (since_sync changes first) image
image_from_left [] first image left = image_now first image left
image_from_left (written at piece ∷ earlier) first image left =
    let since = since_sync earlier first in
    let before : IsImage since left.0 = image_from_left earlier first left.0 left.1 in
    let torn : Torn at (length piece) left.0 image = left.2 in
    record {
      no_shorter = omega arith;
      no_longer = omega arith;
      same = λ place below untouched.
          outside at (length piece) left.0 image torn place untouched.0 ∙ before.same place below untouched.1;
    }
image_from_left (cut_to n ∷ earlier) first image left =
    let since = since_sync earlier first in
    let before : IsImage since left.0 = image_from_left earlier first left.0 left.1 in
    let shortened : Shortened n left.0 image = left.2 in
    record {
      no_shorter = omega arith;
      no_longer = omega arith;
      same = λ place below untouched.
          same_before n left.0 image place shortened.front (omega arith) ∙ before.same place (omega arith) untouched;
    }
image_from_left (synced ∷ earlier) first image left = image_now (content_of earlier first) image left

-- How the lengths since the last sync stand to what a read gives.
record Spans (since : Since) (content : List ℕ) : Type 0 where
  kept : since.least ≤ length since.kept
  least : since.least ≤ length content
  greatest : length content ≤ since.greatest

spans : (changes : List Change) (first : List ℕ) → AreChanges changes first
    → Spans (since_sync changes first) (content_of changes first)
spans [] first are = record { kept = omega arith; least = omega arith; greatest = omega arith }
spans (written at piece ∷ earlier) first are =
    let before : Spans (since_sync earlier first) (content_of earlier first) = spans earlier first are.1 in
    let long = length-put_at at piece (content_of earlier first) are.0 in
    record { kept = omega arith; least = omega arith; greatest = omega arith }
spans (cut_to n ∷ earlier) first are =
    let before : Spans (since_sync earlier first) (content_of earlier first) = spans earlier first are.1 in
    let long = length-take n (content_of earlier first) in
    record { kept = omega arith; least = omega (arith, are.0); greatest = omega (arith, are.0) }
spans (synced ∷ earlier) first are = record { kept = omega arith; least = omega arith; greatest = omega arith }

-- The image with the kept bytes put back from a place up to another.
abbrev put_back : ℕ → ℕ → List ℕ → List ℕ → List ℕ
put_back from upto kept image = put_at from (take (upto - from) (drop from kept)) image

length-put_back_piece : (from upto : ℕ) (kept : List ℕ) → from ≤ upto → upto ≤ length kept
    → length (take (upto - from) (drop from kept)) ≡ upto - from
length-put_back_piece from upto kept order within = simp (length-take, length-drop) (omega arith)

-- What was put back is as it was kept.
index-put_back_in : (from upto : ℕ) (kept image : List ℕ) (place : ℕ) → from ≤ length image → upto ≤ length kept
    → from ≤ place → place < upto → slice_index (put_back from upto kept image) place ≡ slice_index kept place
index-put_back_in from upto kept image place within known low high =
    let piece = take (upto - from) (drop from kept) in
    let long : length piece ≡ upto - from = length-put_back_piece from upto kept (omega arith) known in
    let is : from + (place - from) ≡ place = omega arith in
    index-put_at_in from piece image place within low (omega arith)
    ∙ get_or-take (upto - from) (drop from kept) (place - from) 0 (omega arith)
    ∙ get_or-drop from kept (place - from) 0
    ∙ ap (λ (k : ℕ). slice_index kept k) is

-- Every image that is told so may be left after a write, from one that might have been left before it.
before_write : (since : Since) (content : List ℕ) (at n : ℕ) (image : List ℕ) → Spans since content
    → at ≤ length content
    → IsImage (record since { greatest = max since.greatest (at + n); ranges = (at, n) ∷ since.ranges }) image
    → (before : List ℕ) × IsImage since before × Torn at n before image
before_write since content at n image spans within is =
    let high = since.greatest in
    let cut = take high image in
    let short : length cut ≡ min high (length image) = length-take high image in
    let torn : Torn at n cut image = torn_take at n high image (omega arith) is.no_longer in
    let front : (place : ℕ) → place < since.least → IsUntouched since.ranges place → (place < at) ⊎ (at + n ≤ place)
    → slice_index cut place ≡ slice_index since.kept place =
    λ place below untouched out. get_or-take high image place 0 (omega arith) ∙ is.same place below (out, untouched) in
    elim (cases_lt at since.least) [
      | inr all ↦ (
        cut,
        record {
          no_shorter = omega arith;
          no_longer = omega arith;
          same = λ place below untouched. front place below untouched (inl (omega arith));
        },
        torn,
      )
      | inl some ↦
          let upto : ℕ = min (at + n) since.least in
          let piece = take (upto - at) (drop at since.kept) in
          let back = put_at at piece cut in
          let long_piece : length piece ≡ upto - at =
          length-put_back_piece at upto since.kept (omega arith) (omega arith) in
          let in_cut : at ≤ length cut = omega arith in
          let long : length back ≡ max (length cut) (at + length piece) = length-put_at at piece cut in_cut in (
            back,
            record {
              no_shorter = omega arith;
              no_longer = omega arith;
              same = λ place below untouched.
                  elim (cases_lt place at) [
                    | inl ahead ↦ index-put_at_before at piece cut place in_cut ahead
                        ∙ front place below untouched (inl ahead)
                    | inr from ↦ elim (cases_lt place upto) [
                      | inl inside ↦ index-put_back_in at upto since.kept cut place in_cut (omega arith) from inside
                      | inr past ↦ index-put_at_after at piece cut place in_cut (omega arith)
                          ∙ front place below untouched (inr (omega arith))
                    ]
                  ];
            },
            record {
              before = torn.before ∙ sym (take-put_at at piece cut in_cut);
              after = torn.after ∙ sym (drop-put_at_more at piece cut (at + n) in_cut (omega arith));
              no_shorter = omega arith;
              no_longer = omega arith;
            },
          )
    ]

-- Likewise after a cut.
before_cut : (since : Since) (content : List ℕ) (n : ℕ) (image : List ℕ) → Spans since content → n ≤ length content
    → IsImage (record since { least = min since.least n }) image
    → (before : List ℕ) × IsImage since before × Shortened n before image
before_cut since content n image spans within is =
    elim (cases_lt n since.least) [
      | inr all ↦ (
        image,
        record {
          no_shorter = omega arith;
          no_longer = omega arith;
          same = λ place below untouched. is.same place (omega arith) untouched;
        },
        shortened_same n image,
      )
      | inl some ↦
          let piece = take (since.least - n) (drop n since.kept) in
          let back = put_at n piece image in
          let long_piece : length piece ≡ since.least - n =
          length-put_back_piece n since.least since.kept (omega arith) (omega arith) in
          let in_image : n ≤ length image = omega arith in
          let long : length back ≡ max (length image) (n + length piece) = length-put_at n piece image in_image in (
            back,
            record {
              no_shorter = omega arith;
              no_longer = omega arith;
              same = λ place below untouched.
                  elim (cases_lt place n) [
                    | inl ahead ↦ index-put_at_before n piece image place in_image ahead
                        ∙ is.same place (omega arith) untouched
                    | inr from ↦ index-put_back_in n since.least since.kept image place in_image (omega arith) from
                        below
                  ];
            },
            record {
              front = sym (take-put_at n piece image in_image);
              no_shorter = omega arith;
              no_longer = omega arith;
            },
          )
    ]

-- Each such image may be left.
pub left_from_image : (changes : List Change) (first image : List ℕ) → AreChanges changes first
    → IsImage (since_sync changes first) image → MayLeave changes first image
left_from_image [] first image are is = now_image first image is
left_from_image (written at piece ∷ earlier) first image are is =
    let found = before_write (since_sync earlier first) (content_of earlier first) at (length piece) image
    (spans earlier first are.1) are.0 is in
    (found.0, left_from_image earlier first found.0 are.1 found.1, found.2)
left_from_image (cut_to n ∷ earlier) first image are is =
    let found = before_cut (since_sync earlier first) (content_of earlier first) n image (spans earlier first are.1)
    are.0 is in
    (found.0, left_from_image earlier first found.0 are.1 found.1, found.2)
left_from_image (synced ∷ earlier) first image are is = now_image (content_of earlier first) image is

-- The images that a crash may leave are exactly those.
pub leaves_images : (changes : List Change) (first : List ℕ) → AreChanges changes first → LeavesImages changes first
leaves_images changes first are image =
    (image_from_left changes first image, left_from_image changes first image are)
