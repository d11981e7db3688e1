use Rattle.std.proofs.Common.{◌≡◌, ◌++◌, ◌∙◌, ap, string_bytes}
use Rattle.std.specs.Prelude.{codes, decimal}
use Rattle.std.proofs.lemmas.Result.{IfOk-weaker}
use Rattle.http.specs.Request.{head_of}
use Rattle.http.specs.Uri.{uri_text}
use Rattle.callers.proofs.access_log.line.Goals as goal

pub returns : goal.returns
returns c =
    let method = (head_of c.args.request.now).method in
    let uri = uri_text (head_of c.args.request.now).uri in
    let end = codes " " ++ (decimal c.as_u16-status.result ++ codes "\n") in
    IfOk-weaker c.format.result _ _
    (λ text is.
    let printed : string_bytes text ≡ c.method.result.now ++ (codes " " ++ (uri_text c.uri.result.now ++ end)) = is in
    printed ∙ ap (λ m. m ++ (codes " " ++ (uri_text c.uri.result.now ++ end))) c.method.ensures
    ∙ ap (λ u. method ++ (codes " " ++ (uri_text u ++ end))) c.uri.ensures
    ∙ ap (λ n. method ++ (codes " " ++ (uri ++ (codes " " ++ (decimal n ++ codes "\n"))))) c.as_u16-status.ensures.value)
    c.format.ensures.ok
