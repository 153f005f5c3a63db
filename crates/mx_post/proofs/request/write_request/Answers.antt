use Rattle.std.proofs.Common.{◌∙◌, ◌++◌, length, decimal, codes}
use Rattle.mx_post.proofs.PieceLemmas.{crlf, request-written}
use Rattle.mx_post.proofs.request.write_request.Goals as goal

pub returns : goal.returns
returns c =
    let body = c.args.body.now in
    let target = c.as_bytes.ensures.value ∙ c.text.ensures.text in
    let authority = c.as_bytes-2.ensures.value ∙ c.authority.ensures.text in
    let a = c.in_ok-extend_from_slice.ensures.items in
    let b = c.in_ok-extend_from_slice-2.ensures.items ∙ (λ j. a j ++ target j) in
    let d = c.in_ok-extend_from_slice-3.ensures.items ∙ (λ j. b j ++ (codes " HTTP/1.1" ++ (crlf ++ codes "Host: "))) in
    let e = c.in_ok-extend_from_slice-4.ensures.items ∙ (λ j. d j ++ authority j) in
    let f = c.in_ok-extend_from_slice-5.ensures.items
    ∙ (λ j. e j ++ (crlf ++ (codes "Content-Type: application/json" ++ (crlf ++ codes "Content-Length: ")))) in
    let g = c.in_ok-write_length.ensures ∙ (λ j. f j ++ decimal (length body)) in
    let h = c.in_ok-extend_from_slice-6.ensures.items
    ∙ (λ j. g j ++ (crlf ++ (codes "Connection: close" ++ (crlf ++ crlf)))) in
    c.in_ok-extend_from_slice-7.ensures.items ∙ (λ j. h j ++ body)
    ∙ request-written c.args.out.now.items c.args.target.now body
