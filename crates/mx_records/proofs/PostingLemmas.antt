-- What the form of a pusher that is set gives, by that of how it posts.
use Rattle.std.proofs.Common.{◌≡◌, Bool, true, false, [], Option, Some, Ok, refl, ap, sym, subst, ◌∙◌}
use Rattle.mx_json.specs.declared.value.Json.{Json}
use Rattle.mx_records.specs.declared.input_error.InputError.{InputError}
use Rattle.mx_records.specs.declared.pusher_spec.HttpPusher.{HttpPusher}
use Rattle.mx_records.specs.Forms.{http_fields, http_in, posting_form}
use Rattle.mx_records.proofs.FormLemmas.{found-right, given, given-right, refused-last, IsRefused}

pub posting-refused : (set : Bool) (json : Json) (error : InputError) → set ≡ true
    → IsRefused (given (http_fields json) (http_in json)) error
    → IsRefused (given (posting_form set json).fields (posting_form set json).value) error
posting-refused true json error is refused =
    refused-last [] (http_fields json) (http_in json) (Some (http_in json)) error refl refused
posting-refused false json error is refused = absurd cc

pub posting-right : (set : Bool) (json : Json) (http : HttpPusher) → set ≡ true
    → given (http_fields json) (http_in json) ≡ Ok http
    → given (posting_form set json).fields (posting_form set json).value ≡ Ok (Some http)
posting-right true json http is found =
    let posts = found-right (http_fields json) (http_in json) http found in
    given-right (http_fields json) (Some (http_in json)) posts.0 ∙ ap (λ (h : HttpPusher). Ok (Some h)) posts.1
posting-right false json http is found = absurd cc

-- the same for what was read of `kind`
pub refused-as : (set told : Bool) (json : Json) (error : InputError) → told ≡ set
    → IsRefused (given (posting_form set json).fields (posting_form set json).value) error
    → IsRefused (given (posting_form told json).fields (posting_form told json).value) error
refused-as set told json error is refused =
    subst (λ s. IsRefused (given (posting_form s json).fields (posting_form s json).value) error) (sym is) refused

pub found-as : (set told : Bool) (json : Json) (http : Option HttpPusher) → told ≡ set
    → given (posting_form set json).fields (posting_form set json).value ≡ Ok http
    → given (posting_form told json).fields (posting_form told json).value ≡ Ok http
found-as set told json http is found =
    subst (λ s. given (posting_form s json).fields (posting_form s json).value ≡ Ok http) (sym is) found
