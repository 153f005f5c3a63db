use Rattle.std.proofs.Common.{◌∙◌, ◌++◌, ap}
use Rattle.mx_post.specs.Post.{post_of, request_with}
use Rattle.mx_post.proofs.request.request_into.Goals as goal

pub returns-clause-ok : goal.returns-clause-ok
unfolding post_of
returns-clause-ok c =
    let body = c.as_slice.ensures.value ∙ c.in_ok-body.ensures in
    let request = c.as_slice-2.ensures.value ∙ c.in_ok-write_request.ensures
    ∙ (λ j. c.new-request.ensures.items j ++ request_with c.args.target.now (body j)) in
    c.in_ok-extend_from_slice.ensures.items ∙ ap (λ text. c.args.out.now.items ++ text) request
