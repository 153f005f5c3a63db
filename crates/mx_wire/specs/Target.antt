-- Which texts are the URL of a push gateway, by the URL Standard and the Push Gateway API v1; that
-- the scheme may be `http` is ours.
use Rattle.std.specs.Prelude.{ℕ, Bool, not, ◌&&◌, ◌||◌, List, [], ◌++◌, codes, decimal, Option, Some, None, is_some}
use Rattle.std.specs.Prelude.{Result, Ok, Err, if◌then◌else◌}
use Rattle.std.specs.Str.{bytes_eq}
use Rattle.url.specs.Host.{host_text}
use Rattle.url.specs.Input.{is_empty}
use Rattle.url.specs.Parser.{Parsed, parse_url}
use Rattle.url.specs.Parts.{Parts, host_or_empty}
use Rattle.mx_wire.specs.declared.error.TargetError.{TargetError}
use Rattle.mx_wire.specs.declared.error.TargetError.TheVariants.{BadUrl}

-- the scheme is one of the web
abbrev pub is_web_scheme : List ℕ → Bool
is_web_scheme scheme = bytes_eq scheme (codes "http") || bytes_eq scheme (codes "https")

-- the path at which a gateway takes notifications
abbrev pub is_notify_path : List ℕ → Bool
is_notify_path path = bytes_eq path (codes "/_matrix/push/v1/notify")

-- a user name or a password stands before the host
abbrev pub has_user : Parts → Bool
has_user url = not (is_empty url.username) || not (is_empty url.password)

-- The URL of a gateway is a web URL with its path, and has no user name, password or fragment, not
-- even an empty fragment. It may have a port and a query.
abbrev pub is_target : Parts → Bool
is_target url =
    is_web_scheme url.scheme && is_notify_path url.path && not (has_user url)
    && not (is_some url.fragment)

-- what a text is read as, once the URL Standard's parser has read it, or refused it
abbrev pub target_by : Parsed Parts → Result Parts TargetError
target_by (Ok url) = if is_target url then Ok url else Err BadUrl
target_by (Err _) = Err BadUrl

-- what a text is read as
abbrev pub target_in : List ℕ → Result Parts TargetError
target_in text = target_by (parse_url None text)

-- `:` and the port, where the URL's text has one, so not where it's that of the scheme
abbrev pub port_text : Option ℕ → List ℕ
port_text None = []
port_text (Some port) = codes ":" ++ decimal port

-- whom a request to the URL is addressed to: the `uri-host [ ":" port ]` of RFC 9112, 'Host and
-- :authority' of its request target in absolute form
abbrev pub authority_of : Parts → List ℕ
authority_of url = host_text (host_or_empty url) ++ port_text url.port
