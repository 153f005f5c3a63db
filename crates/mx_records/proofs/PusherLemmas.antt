-- The object that stands for a setting of a pusher is valid, and is read as that setting again.
use Rattle.std.proofs.Common.{◌≡◌, ◌<◌, ◌≤◌, ◌^◌, ℕ, ℤ, pos, negsuc, Bool, true, false, cond, ◌&&◌, ◌||◌, List, [], ◌∷◌}
use Rattle.std.proofs.Common.{◌++◌, codes, Option, Some, None, is_some, option_map, option_and_then, unwrap_or, Ok}
use Rattle.std.proofs.Common.{IfSome, refl, ap, sym, subst, ◌∙◌, arith}
use Rattle.std.proofs.lemmas.Bool.{and_from, and_parts, leb-true}
use Rattle.std.specs.List.{list_all}
use Rattle.std.specs.Option.{option_map_or, option_or}
use Rattle.std.specs.Str.{bytes_eq, is_utf8}
use Rattle.mx_json.specs.declared.value.Json.{Json, Null, Truth, Whole, Text, Object, out-Json}
use Rattle.mx_json.specs.declared.value.JsonObject.{JsonObject}
use Rattle.mx_json.specs.Ids.{is_user_id}
use Rattle.mx_json.specs.Json.{are_rising, is_object, is_valid, is_whole, member, text_at, text_of, text_or_empty}
use Rattle.mx_json.specs.Json.{top_pairs, truth_at, whole_at}
use Rattle.mx_json.proofs.JsonLemmas.{is_canonical-Whole, is_valid-member, is_valid_parts}
use Rattle.mx_json.proofs.ObjectLemmas.{is_fit-Null, is_fit-Text, is_utf8-ascii}
use Rattle.mx_json.proofs.RisingLemmas.{keys_of}
use Rattle.mx_records.specs.declared.input.Input.{Input}
use Rattle.mx_records.specs.declared.input.Input.TheVariants.{Pusher}
use Rattle.mx_records.specs.declared.input_word.InputWord.TheVariants.{Pusher as PusherWord}
use Rattle.mx_records.specs.declared.field_name.FieldName.{FieldName}
use Rattle.mx_records.specs.declared.pusher_spec.HttpPusher.{HttpPusher}
use Rattle.mx_records.specs.declared.pusher_spec.PusherSpec.{PusherSpec}
use Rattle.mx_records.specs.Forms.{app_id_in, append_field, data_fields, data_in, details_in, has_pusher_kind}
use Rattle.mx_records.specs.Forms.{has_text_or_none, has_truth_or_none, has_url, http_fields, http_in, is_app_id}
use Rattle.mx_records.specs.Forms.{is_http, is_null, is_pushkey, is_set, named_fields, pusher_form, pushkey_in}
use Rattle.mx_records.specs.Forms.{seconds_in, seconds_told, shown_fields, ts_field, user_in, input_in}
use Rattle.mx_records.specs.InputWords.{input_word_named}
use Rattle.mx_records.specs.Normal.{Field, fields_given, given_pairs, normal_of, object_of, pusher_fields, text_field}
use Rattle.mx_records.specs.Normal.{IsNormal}
use Rattle.mx_records.proofs.FormLemmas.{AreRight, right-both}
use Rattle.mx_records.proofs.GivenLemmas.{fit-member, fits, fits-text, fits-truth_if, is_null-Null, is_object-Object}
use Rattle.mx_records.proofs.GivenLemmas.{is_object-Null, look, member-given, object-is, or_none, pairs-Object}
use Rattle.mx_records.proofs.GivenLemmas.{text-read, text_of-Null, text_of-Text, truth-or_none, truth-read}
use Rattle.mx_records.proofs.GivenLemmas.{valid-object, whole-member, whole-read}
use Rattle.mx_records.proofs.NormalLemmas.{each-right, reads-form, right-all, right-left}

-- ---- kinds

http-Text : is_http (Text (codes "http")) ≡ true
http-Text = ap (λ told. option_map_or (λ text. bytes_eq text (codes "http")) told false) (text_of-Text (codes "http"))

http-Null : is_http Null ≡ false
http-Null = ap (λ told. option_map_or (λ text. bytes_eq text (codes "http")) told false) text_of-Null

-- ---- which pusher is set

module _ (fields : List Field) (user pushkey app_id : List ℕ)
    (has_user : look (codes "user") fields ≡ Some (Text user))
    (has_pushkey : look (codes "pushkey") fields ≡ Some (Text pushkey))
    (has_app_id : look (codes "app_id") fields ≡ Some (Text app_id)) where
  user-is : user_in (object_of fields) ≡ user
  user-is = ap (λ o. unwrap_or o []) (text-read (codes "user") fields (Some user) has_user)

  pushkey-is : pushkey_in (object_of fields) ≡ pushkey
  pushkey-is = ap (λ o. unwrap_or o []) (text-read (codes "pushkey") fields (Some pushkey) has_pushkey)

  app_id-is : app_id_in (object_of fields) ≡ app_id
  app_id-is = ap (λ o. unwrap_or o []) (text-read (codes "app_id") fields (Some app_id) has_app_id)

  named-right : is_user_id user ≡ true → is_pushkey pushkey ≡ true → is_app_id app_id ≡ true
      → has_pusher_kind (object_of fields) ≡ true → AreRight (named_fields (object_of fields))
  named-right local key app kind =
      right-all (named_fields (object_of fields))
      (and_from _ _ (ap is_user_id user-is ∙ local) (and_from _ _ (ap is_pushkey pushkey-is ∙ key)
      (and_from _ _ (ap is_app_id app_id-is ∙ app) (and_from _ _ kind refl))))

-- ---- a pusher that is taken away

abbrev taken : List ℕ → List ℕ → List ℕ → PusherSpec
taken user pushkey app_id = record { user = user; pushkey = pushkey; app_id = app_id; http = None }

taken-reads : (user pushkey app_id : List ℕ) → is_user_id user ≡ true → is_pushkey pushkey ≡ true
    → is_app_id app_id ≡ true
    → input_in (normal_of (Pusher (taken user pushkey app_id))) ≡ Ok (Pusher (taken user pushkey app_id))
unfolding input_word_named
taken-reads user pushkey app_id local key app =
    let fields = pusher_fields (taken user pushkey app_id) None in
    let json = object_of fields in
    let kind_is = member-given (codes "kind") fields in
    let set_is : is_set json ≡ false = ap (λ found. option_map_or is_http found false) kind_is ∙ http-Null in
    let has_kind : has_pusher_kind json ≡ true =
    ap (λ found. option_map_or (λ kind. is_http kind || is_null kind) found false) kind_is
    ∙ ap (λ b. b || is_null Null) http-Null ∙ is_null-Null in
    reads-form fields PusherWord (codes "pusher") (pusher_form json) (Pusher (taken user pushkey app_id)) refl refl refl
    (right-both (named_fields json) (cond (is_set json) (http_fields json) [])
    (named-right fields user pushkey app_id refl refl refl local key app has_kind)
    (subst (λ b. AreRight (cond b (http_fields json) [])) (sym set_is) refl))
    (λ i. Pusher (record {
      user = user-is fields user pushkey app_id refl refl refl i;
      pushkey = pushkey-is fields user pushkey app_id refl refl refl i;
      app_id = app_id-is fields user pushkey app_id refl refl refl i;
      http = cond (set_is i) (Some (http_in json)) None;
    }))

-- ---- a pusher that posts

abbrev posting : List ℕ → List ℕ → List ℕ → HttpPusher → PusherSpec
posting user pushkey app_id http = record { user = user; pushkey = pushkey; app_id = app_id; http = Some http }

posting-reads : (user pushkey app_id : List ℕ) (http : HttpPusher) → is_user_id user ≡ true → is_pushkey pushkey ≡ true
    → is_app_id app_id ≡ true → has_url (Object http.details) ≡ true
    → has_text_or_none (codes "format") (Object http.details) ≡ true
    → input_in (normal_of (Pusher (posting user pushkey app_id http))) ≡ Ok (Pusher (posting user pushkey app_id http))
unfolding input_word_named
posting-reads user pushkey app_id http local key app url format =
    let fields = pusher_fields (posting user pushkey app_id http) (Some http) in
    let json = object_of fields in
    let kind_is = member-given (codes "kind") fields in
    let set_is : is_set json ≡ true = ap (λ found. option_map_or is_http found false) kind_is ∙ http-Text in
    let has_kind : has_pusher_kind json ≡ true =
    ap (λ found. option_map_or (λ kind. is_http kind || is_null kind) found false) kind_is
    ∙ ap (λ b. b || is_null (Text (codes "http"))) http-Text in
    let shown = text-read (codes "app_display_name") fields (Some http.app_display_name) refl in
    let device = text-read (codes "device_display_name") fields (Some http.device_display_name) refl in
    let lang = text-read (codes "lang") fields (Some http.lang) refl in
    let data_is : data_in json ≡ Object http.details =
    ap (λ found. unwrap_or found Null) (member-given (codes "data") fields) in
    let details_is : details_in json ≡ http.details =
    ap (λ (value : Json). record { pairs = top_pairs (out-Json value) }) data_is
    ∙ ap (λ pairs. record { pairs = pairs }) (pairs-Object http.details) in
    let has_append : look (codes "append") fields ≡ option_map Truth http.append =
    or_none (option_map Truth http.append) in
    let append_is = truth-read (codes "append") fields http.append has_append in
    let ts_is : seconds_in json ≡ Some http.ts =
    ap (option_and_then seconds_told) (whole-read (codes "ts") fields (pos http.ts) refl) in
    reads-form fields PusherWord (codes "pusher") (pusher_form json)
    (Pusher (posting user pushkey app_id http)) refl refl refl
    (right-both (named_fields json) (cond (is_set json) (http_fields json) [])
    (named-right fields user pushkey app_id refl refl refl local key app has_kind)
    (subst (λ b. AreRight (cond b (http_fields json) [])) (sym set_is)
    (right-all (http_fields json)
    (and_from _ _ (ap is_some shown) (and_from _ _ (ap is_some device) (and_from _ _ (ap is_some lang)
    (and_from _ _ (ap is_object data_is ∙ is_object-Object http.details)
    (and_from _ _ (ap has_url data_is ∙ url)
    (and_from _ _ (ap (has_text_or_none (codes "format")) data_is ∙ format)
    (and_from _ _ (truth-or_none (codes "append") fields http.append has_append)
    (and_from _ _ (ap is_some ts_is) refl)))))))))))
    (λ i. Pusher (record {
      user = user-is fields user pushkey app_id refl refl refl i;
      pushkey = pushkey-is fields user pushkey app_id refl refl refl i;
      app_id = app_id-is fields user pushkey app_id refl refl refl i;
      http = cond (set_is i) (Some (record {
        app_display_name = unwrap_or (shown i) [];
        device_display_name = unwrap_or (device i) [];
        lang = unwrap_or (lang i) [];
        details = details_is i;
        append = append_is i;
        ts = unwrap_or (ts_is i) 0;
      })) None;
    }))

-- ---- what a valid value is read as

posting-rising : (user pushkey app_id : List ℕ) (http : HttpPusher) (append : Option Bool) → http.append ≡ append
    → are_rising (keys_of
    (given_pairs (pusher_fields (posting user pushkey app_id http) (Some (record http { append = append }))))) ≡ true
posting-rising user pushkey app_id http None is = refl
posting-rising user pushkey app_id http (Some append) is = refl

-- the seconds under `ts` are those of a whole number
seconds-whole : (number : Option ℤ) (seconds : ℕ) → option_and_then seconds_told number ≡ Some seconds
    → number ≡ Some (pos seconds)
seconds-whole None seconds is = absurd cc
seconds-whole (Some (pos told)) seconds is = let same : told ≡ seconds = cc in ap (λ n. Some (pos n)) same
seconds-whole (Some (negsuc below)) seconds is = absurd cc

module _ (json : Json) (valid : is_valid json ≡ true) where
  fits-ts : is_some (seconds_in json) ≡ true
      → fits (codes "ts", Some (Whole (pos (unwrap_or (seconds_in json) 0)))) ≡ true
  fits-ts = by (seconds_in json) refl
    where
      by : (seconds : Option ℕ) → seconds_in json ≡ seconds → is_some seconds ≡ true
          → fits (codes "ts", Some (Whole (pos (unwrap_or seconds 0)))) ≡ true
      by None is some = absurd cc
      by (Some seconds) is some =
          fit-member (codes "ts") json (Whole (pos seconds)) (is_utf8-ascii (codes "ts") refl) valid
          (whole-member (codes "ts") json (pos seconds) (seconds-whole (whole_at (codes "ts") json) seconds is))

  data-member : is_object (data_in json) ≡ true → member (codes "data") json ≡ Some (Object (details_in json))
  data-member = by (member (codes "data") json)
    where
      by : (found : Option Json) → is_object (unwrap_or found Null) ≡ true
          → found ≡ Some (Object (record { pairs = top_pairs (out-Json (unwrap_or found Null)) }))
      by None is = absurd (cc2 is)
        where
          cc2 : is_object Null ≡ true → ⊥
          cc2 is = let no = is_object-Null in cc
      by (Some value) is = ap (λ j. Some j) (object-is value is)

  fits-named : list_all fits
      (text_field (codes "pushkey") (pushkey_in json) ∷ text_field (codes "user") (user_in json) ∷ []) ≡ true
  fits-named =
      and_from _ _ (fits-text (codes "pushkey") json (is_utf8-ascii (codes "pushkey") refl) valid)
      (and_from _ _ (fits-text (codes "user") json (is_utf8-ascii (codes "user") refl) valid) refl)

  fits-word : fits (text_field (codes "cmd") (codes "pusher")) ≡ true
  fits-word = is_fit-Text (codes "cmd") (codes "pusher") (is_utf8-ascii (codes "cmd") refl)
      (is_utf8-ascii (codes "pusher") refl)

  taken-valid : is_valid (normal_of (Pusher (taken (user_in json) (pushkey_in json) (app_id_in json)))) ≡ true
  taken-valid =
      valid-object (pusher_fields (taken (user_in json) (pushkey_in json) (app_id_in json)) None) refl
      (and_from _ _ (fits-text (codes "app_id") json (is_utf8-ascii (codes "app_id") refl) valid)
      (and_from _ _ fits-word
      (and_from _ _ (is_fit-Null (codes "kind") (is_utf8-ascii (codes "kind") refl)) fits-named)))

  posting-valid : is_object (data_in json) ≡ true → is_some (seconds_in json) ≡ true
      → is_valid (normal_of (Pusher (posting (user_in json) (pushkey_in json) (app_id_in json) (http_in json)))) ≡ true
  posting-valid is_set ts =
      valid-object
      (pusher_fields (posting (user_in json) (pushkey_in json) (app_id_in json) (http_in json)) (Some (http_in json)))
      (posting-rising (user_in json) (pushkey_in json) (app_id_in json) (http_in json)
      (truth_at (codes "append") json) refl)
      (and_from _ _ (fits-text (codes "app_display_name") json (is_utf8-ascii (codes "app_display_name") refl) valid)
      (and_from _ _ (fits-text (codes "app_id") json (is_utf8-ascii (codes "app_id") refl) valid)
      (and_from _ _ (fits-truth_if (codes "append") json (is_utf8-ascii (codes "append") refl) valid)
      (and_from _ _ fits-word
      (and_from _ _ (fit-member (codes "data") json (Object (details_in json)) (is_utf8-ascii (codes "data") refl) valid
      (data-member is_set))
      (and_from _ _
      (fits-text (codes "device_display_name") json (is_utf8-ascii (codes "device_display_name") refl) valid)
      (and_from _ _ (is_fit-Text (codes "kind") (codes "http") (is_utf8-ascii (codes "kind") refl)
      (is_utf8-ascii (codes "http") refl))
      (and_from _ _ (fits-text (codes "lang") json (is_utf8-ascii (codes "lang") refl) valid)
      (and_from _ _ (fits-text (codes "pushkey") json (is_utf8-ascii (codes "pushkey") refl) valid)
      (and_from _ _ (fits-ts ts)
      (and_from _ _ (fits-text (codes "user") json (is_utf8-ascii (codes "user") refl) valid) refl)))))))))))

  -- what follows from the fields of a pusher that posts
  posting-normal : AreRight (named_fields json) → AreRight (http_fields json)
      → IsNormal (Pusher (posting (user_in json) (pushkey_in json) (app_id_in json) (http_in json)))
  posting-normal named right =
      let who = each-right (named_fields json) named in
      let after_names =
      (right-left (shown_fields json) (data_fields json ++ (append_field json ∷ ts_field json ∷ [])) right).1 in
      let told = each-right (data_fields json ++ (append_field json ∷ ts_field json ∷ [])) after_names in
      let is = object-is (data_in json) told.0 in
      record {
        valid = posting-valid told.0 told.1.1.1.1.0;
        reads = posting-reads (user_in json) (pushkey_in json) (app_id_in json) (http_in json) who.0 who.1.0 who.1.1.0
            (ap has_url (sym is) ∙ told.1.0) (ap (has_text_or_none (codes "format")) (sym is) ∙ told.1.1.0);
      }

  taken-normal : AreRight (named_fields json)
      → IsNormal (Pusher (taken (user_in json) (pushkey_in json) (app_id_in json)))
  taken-normal named =
      let who = each-right (named_fields json) named in
      record {
        valid = taken-valid;
        reads = taken-reads (user_in json) (pushkey_in json) (app_id_in json) who.0 who.1.0 who.1.1.0;
      }

  pub pusher-normal : AreRight (pusher_form json).fields → IsNormal (pusher_form json).value
  pusher-normal = by (is_set json)
    where
      by : (set : Bool) → AreRight (named_fields json ++ cond set (http_fields json) [])
          → IsNormal (Pusher (record {
            user = user_in json;
            pushkey = pushkey_in json;
            app_id = app_id_in json;
            http = cond set (Some (http_in json)) None;
          }))
      by true right =
          let parts = right-left (named_fields json) (http_fields json) right in posting-normal parts.0 parts.1
      by false right = taken-normal (right-left (named_fields json) [] right).0

-- the seconds of a pusher that posts have 63 bits
pub ts-fits : (spec : PusherSpec) (http : HttpPusher) → spec.http ≡ Some http
    → is_valid (normal_of (Pusher spec)) ≡ true
    → http.ts < 2 ^ 63
ts-fits spec http is valid =
    let fields = pusher_fields spec (Some http) in
    let here : is_valid (object_of fields) ≡ true =
    subst (λ (o : Option HttpPusher). is_valid (object_of (pusher_fields spec o)) ≡ true) is valid in
    let value =
    is_valid-member (codes "ts") (object_of fields) (Whole (pos http.ts)) here (member-given (codes "ts") fields) in
    let whole : is_whole (pos http.ts) ≡ true =
    sym (is_canonical-Whole (pos http.ts)) ∙ (is_valid_parts (Whole (pos http.ts)) value).0 in
    omega (arith, leb-true _ _ whole)

-- the same of an input that is such a setting
pub ts-in_range : (input : Input) (spec : PusherSpec) → input ≡ Pusher spec → IsNormal input
    → IfSome spec.http (λ http. http.ts < 2 ^ 63)
ts-in_range input spec is normal = by spec.http refl
  where
    by : (http : Option HttpPusher) → spec.http ≡ http → IfSome http (λ http. http.ts < 2 ^ 63)
    by None has = tt
    by (Some http) has =
        ts-fits spec http has (subst (λ (input : Input). is_valid (normal_of input) ≡ true) is normal.valid)
