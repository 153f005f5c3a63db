use Rattle.std.proofs.Common.{◌≡◌, ◌∙◌, ◌++◌, [], ◌∷◌, ℕ, List, Some, codes, pos, ap, sym}
use Rattle.std.proofs.lemmas.List.{append-nil}
use Rattle.mx_json.specs.declared.value.Json.{Json, Whole, Object}
use Rattle.mx_records.specs.Normal.{Field, given_pairs, text_field}
use Rattle.mx_records.proofs.GivenLemmas.{appended}
use Rattle.mx_records.proofs.normal.http_value.Goals as goal

pub returns : goal.returns
returns c =
    let begun = c.args.begun.pairs in
    let kind : List Field = text_field (codes "kind") (codes "http") ∷ [] in
    let lang : List ℕ → List Field = λ text. text_field (codes "lang") text ∷ [] in
    let pushkey : List ℕ → List Field = λ text. text_field (codes "pushkey") text ∷ [] in
    let ts : List Field = (codes "ts", Some (Whole (pos c.args.http.now.ts))) ∷ [] in
    let user : List ℕ → List Field = λ text. text_field (codes "user") text ∷ [] in
    let one = appended begun [] kind begun _ (sym (append-nil begun)) c.in_ok-object.ensures in
    let two = appended begun kind (lang c.as_str.result.now) _ _ one c.in_ok-object-2.ensures in
    let three = appended begun (kind ++ lang c.as_str.result.now)
    (pushkey c.as_str-2.result.now) _ _ two c.in_ok-object-3.ensures in
    let four = appended begun
    (kind ++ lang c.as_str.result.now ++ pushkey c.as_str-2.result.now) ts _ _ three c.in_ok-object-4.ensures in
    let five = appended begun (kind ++ lang c.as_str.result.now ++ pushkey c.as_str-2.result.now ++ ts)
    (user c.as_text.result.now) _ _ four c.in_ok-object-5.ensures in
    ap (λ (pairs : List (List ℕ × Json)). Object (record { pairs = pairs })) five
    ∙ (λ i. Object (record {
      pairs = begun ++ given_pairs
          (kind ++ lang (c.as_str.ensures i) ++ pushkey (c.as_str-2.ensures i) ++ ts
          ++ user (c.as_text.ensures.text i));
    }))
